-- The terms of this crate: what others cite of its definitions, under one name.
pub use Rattle.cmd_nodes.specs.Faults.{EndsTalk, GivesUp, HasCalled}
pub use Rattle.cmd_nodes.specs.Served.{IsBegunFrom, ListensUntil, Traffic, traffic}
pub use Rattle.cmd_nodes.specs.Settled.{CoordinatesTree, IsBegunOfPart, IsRunBoard, IsServedBoard, IsSettledBoard, SettlesPart}
