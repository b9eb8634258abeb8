mod FunctionLinks
