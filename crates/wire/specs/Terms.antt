-- The terms of this crate: what others cite of its definitions, under one name.
pub use Rattle.wire.specs.Fulfilled.{Answering, BrokenOff, Came, EndsInStep, Faulted, Fulfilled, Handed, Happening, IsBegun, MemoryLink, Reply, Scene, Stream, TakesPiece, Ticked, Worked, cut_by, cut_to, devices, event_of, events_of, fed, frame_of, fulfilled, grown, kept_text, known, scene, seen, sent_by, shortened, text_after}
unfoldable pub use Rattle.wire.specs.Fulfilled.{lines_from, parts_from, rest_from}
pub use Rattle.wire.specs.Limits.{piece_byte_limit}
pub use Rattle.wire.specs.Message.{Ack, Ask, Done, Grant, Later, Message, Rec, Stop, ack_in, ask_in, done_in, frames_of, grant_in, later_in, message_by, message_in, or_bad, read_record, read_table, rec_in, said, ◌>>=◌}
unfoldable pub use Rattle.wire.specs.Message.{message_of, message_text}
