pub mod OwnContexts
