pub mod HypotOrder
pub mod ProductOrder
pub mod SumOrder
pub mod Middle
