pub mod WrittenIndex
