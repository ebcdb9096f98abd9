pub mod Advancing
pub mod Answering
pub mod Deciding
pub mod EachOnce
pub mod EndpointsInOrder
pub mod Equations
pub mod FewReads
pub mod FewServers
pub mod FewTargets
pub mod FreeTargets
pub mod Policies
pub mod Routing
pub mod HeldLast
pub mod KnownLook
pub mod Reaching
pub mod Rows
pub mod ServersLeft
pub mod ServiceWalks
pub mod Synthesizing
pub mod Unread
mod Outcomes
mod AnswersRead
mod Fetching
mod RoutesRead
