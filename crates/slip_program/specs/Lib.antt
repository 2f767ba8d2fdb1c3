pub mod Program
pub mod Fronts
