mod Elements
mod Inner
mod Expanded
mod TopCalls
mod Unanswered
mod Ready
