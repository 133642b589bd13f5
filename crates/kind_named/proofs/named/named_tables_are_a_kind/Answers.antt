use Rattle.kind_named.proofs.KindLaws.{named_is_kind}
use Rattle.kind_named.proofs.named.named_tables_are_a_kind.Goals as goal

pub returns : goal.returns
returns c = named_is_kind
