mod Order
mod Number
mod Single
