pub mod Failed
pub mod Dues
pub mod Laws
pub mod GoesLaws
pub mod Examples
