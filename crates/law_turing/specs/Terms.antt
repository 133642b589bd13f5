-- The terms of this crate: what others cite of its definitions, under one name.
pub use Rattle.law_turing.specs.Halting.{HaltsAt, HaltsOn, HaltsWith, IsRado, Never, score_at, score_of, score_where}
pub use Rattle.law_turing.specs.NeverHalting.{At, Backward, Beyond, Cycle, Farthest, Fits, Halt, IsClosedSet, IsWider, Local, Node, Pair, Partial, Translated, TwoAutomata, before_step, behind, can_lead_to, known_at_end, known_before, left_behind, may_hold, standing_on, symbols_ahead}
unfoldable pub use Rattle.law_turing.specs.NeverHalting.{all_pairs, level}
pub use Rattle.law_turing.specs.Run.{Config, Extends, IsMachine, Machine, Takes, Tape, after, blank, carried_out, cell, cell_of, config_code, done_by, exchanged, exchanged_entry, mirrored, mirrored_entry, moved, moved_head, next, next_from, opposite, start, symbol_read, tape_code, with_cell, with_exchanged, written}
unfoldable pub use Rattle.law_turing.specs.Run.{from}
