pub mod LineLaws
mod LineLemmas
