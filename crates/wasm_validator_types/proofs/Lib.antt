mod Imports
mod Exports
mod FunctionsAndTags
