use Rattle.std.proofs.Common.{◌≡◌, ℕ, List, [], ◌∷◌, ◌+◌, sym, refl, subst, drop, get_or, arith}
use Rattle.std.proofs.lemmas.List.{drop_all, drop_more}
use Rattle.cmd_words.specs.Asked.{ReadsOn, are_between}
use Rattle.cmd_words.proofs.words.grouped.Goals as goal

pub loop-byte-preserved : goal.loop-byte-preserved
loop-byte-preserved c =
    λ n goes.
    let rest = drop (c.loop-byte.byte-index + 1) c.args.word.now in
    let after : List ℕ → Type 0 = λ bytes. ReadsOn c.loop-byte.front.number c.loop-byte.front.ends_with_digit bytes n in
    let read = subst (λ (items : List ℕ). after (get_or items c.loop-byte.byte-index 0 ∷ rest)) c.as_bytes-byte-items.ensures.value (c.in_ok-front.ensures rest n goes) in
    c.loop-byte.invariant n (subst after (sym (drop_more c.args.word.now c.loop-byte.byte-index 0 (omega arith))) read)

pub returns-then-front : goal.returns-then-front
unfolding are_between
returns-then-front c =
    let none : drop c.loop-byte.byte-index c.args.word.now ≡ [] = drop_all c.loop-byte.byte-index c.args.word.now (omega arith) in
    c.loop-byte.invariant c.loop-byte.front.number
    (subst (λ bytes. ReadsOn c.loop-byte.front.number c.loop-byte.front.ends_with_digit bytes c.loop-byte.front.number) (sym none) (c.if-front.true, tt, refl))
