mod ExampleCore
mod Refused
