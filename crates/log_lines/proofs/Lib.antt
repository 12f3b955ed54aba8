pub mod CountLaws
pub mod StepsTheorem
pub mod LineLaws
