pub mod Found
pub mod ExampleLinks
pub mod ExampleContexts
pub mod ExampleParts
pub mod HeadTrees
pub mod HeadLinks
pub mod Common
