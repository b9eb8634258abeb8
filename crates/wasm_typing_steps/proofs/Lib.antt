pub mod FusedInstructions
