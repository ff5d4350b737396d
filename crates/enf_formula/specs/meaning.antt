pub mod Satisfaction
