-- The laws that the functions from codes to maps cite.
pub mod Imaging
pub mod CycleImages
pub mod MapImages
