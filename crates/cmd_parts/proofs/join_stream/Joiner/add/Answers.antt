use Rattle.std.proofs.Common.{rules, ◌≡◌, ◌∙◌, ◌+◌, false, true, refl}
use Rattle.cmd_parts.specs.Join.{is_silent}
use Rattle.cmd_parts.proofs.join_stream.Joiner.add.Goals as goal
use Rattle.cmd_parts.proofs.join_stream.Joiner.add.Goals.{then-self, else-self}

pub returns-clause-ok : goal.returns-clause-ok
returns-clause-ok g c =
    let so = c.in_ok-is_sound.ensures.ok in
    let number : c.in-Some.next ≡ c.args.self.now.number + 1 = search rules in
    let sound : c.args.self.now.is_sound ≡ true → c.if-self.self ≡ is_silent so.said = elim c.if-self.branch [
      | then-self w ↦ λ yes. w.self-is ∙ so.sound
      | else-self w ↦ λ yes. absurd (let no = w.if-self.false in cc)
    ] in
    let unsound : c.args.self.now.is_sound ≡ false → c.if-self.self ≡ false = elim c.if-self.branch [
      | then-self w ↦ λ no. absurd (let yes = w.if-self.true in cc)
      | else-self w ↦ λ no. w.self-is ∙ no
    ] in
    (so.said, record { now = c.add_part.new.whole; counted = so.counted; is_now = refl; adds = so.adds; number = number; sound = sound; unsound = unsound }, so.says)
