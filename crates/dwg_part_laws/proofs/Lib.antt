pub mod AsDefined
