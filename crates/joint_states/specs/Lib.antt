pub mod JointStates
pub mod Laws
