use Rattle.std.proofs.Common.{◌≡◌, ◌^◌, ℕ, true, ltb, Option, Some, None, sym, ◌∙◌, ap, refl, arith}
use Rattle.std.specs.Prelude.{nat_lt, if◌then◌else◌}
use Rattle.std.proofs.lemmas.Bool.Decides.{nat_tests}
use Rattle.text.specs.Terms.{decimal_value}
use Rattle.wire.specs.Message.{◌>>=◌, Message, Ask}
use Rattle.wire.proofs.messages.ask_in.Goals as goal

abbrev asked : ℕ → Option Message
asked id = if nat_lt id (2 ^ 32) then Some (Ask id) else None

-- an id of 32 bits is asked for
is_asked : (id : ℕ) → ltb id (2 ^ 32) ≡ true → Some (Ask id) ≡ asked id
is_asked id small = rw small refl

pub returns-in-Ok : goal.returns-in-Ok
returns-in-Ok c =
    let number : ℕ = c.in_ok-decimal_value.field-0 in
    let is : Some number ≡ decimal_value c.args.text.now = sym c.in_ok-decimal_value.was ∙ c.decimal_value.ensures in
    let small : ltb number (2 ^ 32) ≡ true = grind (arith, nat_tests, c.in-Ok.ensures.0) in
    ap (λ id. Some (Ask id)) c.in-Ok.ensures.1 ∙ is_asked number small ∙ ap (λ o. o >>= asked) is
