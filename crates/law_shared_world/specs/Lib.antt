pub mod SharedCode
pub mod Laws
