pub mod Composites
