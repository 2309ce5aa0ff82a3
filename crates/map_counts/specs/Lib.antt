pub mod At
pub mod Summary
pub mod Laws
