mod Opening
mod Starting
