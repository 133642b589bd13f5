use Rattle.cmd_page.proofs.PageLaws.{by_entries, by_kind, by_steps, none_capped}
use Rattle.cmd_page.proofs.census.Census.new.Goals as goal

pub returns : goal.returns
returns c = record { kinds = none_capped by_kind 256; entries = none_capped by_entries 15; steps = none_capped by_steps 64 }
