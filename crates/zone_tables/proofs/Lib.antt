mod Blanks
mod NextChange
