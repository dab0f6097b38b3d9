mod Unmentioned
mod Moved
mod Nodes
