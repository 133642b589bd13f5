-- The terms of this crate: what others cite of its definitions, under one name.
pub use Rattle.machine_text.specs.Limits.{state_limit, text_byte_limit}
pub use Rattle.machine_text.specs.Packed.{IsMapOf, IsTable, Packed, code_of, direction_number, empty_table, hole, pair_place, same_symbol, symbol_number, symbol_of, table_cmp}
unfoldable pub use Rattle.machine_text.specs.Packed.{entry_of, filled, holes, tabulated, with_entry}
pub use Rattle.machine_text.specs.Text.{is_table_length, place_of, states_in, symbol_byte, text_fault_number}
unfoldable pub use Rattle.machine_text.specs.Text.{entry_named, fault_at, faults_of, table_of, text_of}
