mod HeadNames
mod BodyNames
mod CodeNames
mod Listed
