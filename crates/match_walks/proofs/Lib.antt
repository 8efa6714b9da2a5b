-- Labels below a label: where the first of them is, and where a walk goes on.
pub mod Steps
pub mod Courses
