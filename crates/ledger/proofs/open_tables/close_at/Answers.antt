use Rattle.std.proofs.Common.{not, nat_eq, rules}
use Rattle.std.proofs.lemmas.Map.Made.{filter_same_pairs}
use Rattle.ledger.proofs.open_tables.close_at.Goals as goal

pub returns : goal.returns
returns c = filter_same_pairs _ (λ e. not (nat_eq e.1 c.args.place)) _ (λ k v b w f t. search rules) _ _ c.retain.ensures.filtered
