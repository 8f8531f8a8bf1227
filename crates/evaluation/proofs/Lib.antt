pub mod Bounding
pub mod LossOrder
pub mod PairPut
