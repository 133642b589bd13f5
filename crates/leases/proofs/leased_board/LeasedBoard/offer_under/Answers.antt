use Rattle.std.proofs.Common.{◌≡◌, sym, ◌∙◌, ap, subst, true, List, map, Result, Some}
use Rattle.std.proofs.Math.ListN.{set}
use Rattle.cert.specs.Terms.{recorded}
use Rattle.ledger.specs.Terms.{Contents, same_table}
use Rattle.ledger.specs.declared.faults.Taken.{Taken}
use Rattle.ledger.specs.declared.faults.OfferFault.{OfferFault}
use Rattle.ledger.specs.declared.faults.OfferFault.TheVariants.{NoMemory}
use Rattle.leases.specs.Leases.{Lease, Leases, Leased, AreLeases, came_under, is_live, lease_of, TakesNew, LeasesAfter}
use Rattle.leases.specs.inside.{StoredLease, as_lease, as_leases, AreStored, RenewsOne, shown}
use Rattle.leases.proofs.FreeLaws.{Opens, opens_new}
use Rattle.leases.proofs.Offering.{GoesOut, err_is, same_board, refused_board, same_held, holds_shown, seen_shown, while_lives, under_new_leases, under_new_kept, under_new_takes}
use Rattle.leases.proofs.Moments.{shown_not_ahead, renewed_not_ahead}
use Rattle.leases.proofs.leased_board.LeasedBoard.offer_under.Goals as goal

pub invariant_of-self-in_err-make_room : goal.invariant_of-self-in_err-make_room
invariant_of-self-in_err-make_room c =
    let old = c.self.inside.board in
    let first = c.self.inside.live in
    let ls = c.make_room.new.self in
    let before = c.self.inside.came_under.entries in
    let came = c.reserve.new.self.entries in
    let free = c.self.inside.free.tables in
    let moment = c.self.inside.moment in
    let given = c.self.inside.given in
    let t = c.args.r.now.table in
    let same : map shown ls ≡ map shown first = c.make_room.ensures.shown in
    let same_came : came ≡ before = c.in_ok-reserve.ensures.entries in
    (holds_shown old first ls before came free moment given same same_came c.self.invariant.0, shown_not_ahead moment first ls same c.self.invariant.1)

pub returns-in_err-make_room-clause-leases : goal.returns-in_err-make_room-clause-leases
returns-in_err-make_room-clause-leases c =
    let same : as_leases c.make_room.new.self c.reserve.new.self.entries c.self.inside.moment c.self.inside.given ≡ c.args.self.now.leases =
    seen_shown c.self.inside.live c.make_room.new.self c.self.inside.came_under.entries c.reserve.new.self.entries c.self.inside.moment c.self.inside.given c.make_room.ensures.shown c.in_ok-reserve.ensures.entries
    ∙ ap (λ (s : Leased). s.leases) c.self.view_is in
    subst (λ (result : Result Taken OfferFault). LeasesAfter c.args.r.now.table result c.args.self.now (record { board = c.self.inside.board; leases = as_leases c.make_room.new.self c.reserve.new.self.entries c.self.inside.moment c.self.inside.given }))
    (sym (err_is c.from_residual-in_err-make_room.result NoMemory c.from_residual-in_err-make_room.ensures.1)) same

pub renew-requires-clause-lives : goal.renew-requires-clause-lives
renew-requires-clause-lives c =
    let first = c.self.inside.live in
    let before = c.self.inside.came_under.entries in
    let under : lease_of (as_leases first before c.self.inside.moment c.self.inside.given) c.args.r.now.table ≡ Some c.args.number = subst (λ (s : Leased). lease_of s.leases c.args.r.now.table ≡ Some c.args.number) (sym c.self.view_is) c.requires in
    subst (λ (live : List Lease). is_live live c.args.number ≡ true) (sym (same_held first c.make_room.new.self c.make_room.ensures.shown)) (while_lives (map as_lease first) (came_under before c.args.r.now.table) c.args.number under)

pub invariant_of-self-in-Ok-New : goal.invariant_of-self-in-Ok-New
unfolding same_table
invariant_of-self-in-Ok-New c =
    let old = c.self.inside.board in
    let first = c.self.inside.live in
    let ls = c.make_room.new.self in
    let before = c.self.inside.came_under.entries in
    let came = c.reserve.new.self.entries in
    let free = c.self.inside.free.tables in
    let moment = c.self.inside.moment in
    let given = c.self.inside.given in
    let t = c.args.r.now.table in
    let same : map shown ls ≡ map shown first = c.make_room.ensures.shown in
    let same_came : came ≡ before = c.in_ok-reserve.ensures.entries in
    let holds = holds_shown old first ls before came free moment given same same_came c.self.invariant.0 in
    let new = c.offer_line.new.self in
    let mid = c.swap_remove.new.self.entries in
    let next = c.renew.new.came.entries in
    let gives = rw c.in-Ok-New.field-0-is at c.in-Ok-New.ensures.gives in
    let opens : Opens old new t = opens_new old new (recorded c.args.r.now) c.child_is_table.ensures.below c.root.ensures.board c.in-Ok-New.ensures.kept.root c.in-Ok-New.ensures.kept.format gives.0 gives.1 in
    let out : GoesOut came t mid = λ q. c.swap_remove.ensures.updates.0 q in
    let put : RenewsOne new t c.args.number moment ls c.renew.new.self mid next = c.renew.ensures in
    let at = put.0 in
    let l = put.1 in (
      subst (λ (xs : List StoredLease). AreLeases new (as_leases xs next moment given) × AreStored new xs next free) (sym put.4) (
        under_new_leases old new ls at l came mid next free moment given c.args.number t opens holds.0 holds.1 put.2 out put.3 put.5,
        under_new_kept old new ls at l came mid next free moment given c.args.number t opens holds.0 holds.1 put.2 out put.3 put.5,
      ),
      renewed_not_ahead moment ls c.renew.new.self at l put.2 put.4 put.5.renewed (shown_not_ahead moment first ls same c.self.invariant.1),
    )

pub renew-requires-clause-ahead : goal.renew-requires-clause-ahead
renew-requires-clause-ahead c = shown_not_ahead c.self.inside.moment c.self.inside.live c.make_room.new.self c.make_room.ensures.shown c.self.invariant.1

pub invariant_of-self-in-Err : goal.invariant_of-self-in-Err
invariant_of-self-in-Err c =
    let old = c.self.inside.board in
    let first = c.self.inside.live in
    let ls = c.make_room.new.self in
    let before = c.self.inside.came_under.entries in
    let came = c.reserve.new.self.entries in
    let free = c.self.inside.free.tables in
    let moment = c.self.inside.moment in
    let given = c.self.inside.given in
    let t = c.args.r.now.table in
    let same : map shown ls ≡ map shown first = c.make_room.ensures.shown in
    let same_came : came ≡ before = c.in_ok-reserve.ensures.entries in
    let same_now = same_board c.offer_line.new.self old c.in-Err.ensures.kept.root (refused_board old.root old.records c.offer_line.new.self.records (recorded c.args.r.now) c.in-Err.fault c.in-Err.ensures.gives) c.in-Err.ensures.kept.format in (
      subst (λ (b : Contents). AreLeases b (as_leases ls came moment given) × AreStored b ls came free) (sym same_now) (holds_shown old first ls before came free moment given same same_came c.self.invariant.0),
      shown_not_ahead moment first ls same c.self.invariant.1,
    )

pub returns-in-Ok-New-clause-leases : goal.returns-in-Ok-New-clause-leases
unfolding same_table
returns-in-Ok-New-clause-leases c =
    let old = c.self.inside.board in
    let first = c.self.inside.live in
    let ls = c.make_room.new.self in
    let before = c.self.inside.came_under.entries in
    let came = c.reserve.new.self.entries in
    let free = c.self.inside.free.tables in
    let moment = c.self.inside.moment in
    let given = c.self.inside.given in
    let t = c.args.r.now.table in
    let same : map shown ls ≡ map shown first = c.make_room.ensures.shown in
    let same_came : came ≡ before = c.in_ok-reserve.ensures.entries in
    let holds = holds_shown old first ls before came free moment given same same_came c.self.invariant.0 in
    let new = c.offer_line.new.self in
    let mid = c.swap_remove.new.self.entries in
    let next = c.renew.new.came.entries in
    let gives = rw c.in-Ok-New.field-0-is at c.in-Ok-New.ensures.gives in
    let opens : Opens old new t = opens_new old new (recorded c.args.r.now) c.child_is_table.ensures.below c.root.ensures.board c.in-Ok-New.ensures.kept.root c.in-Ok-New.ensures.kept.format gives.0 gives.1 in
    let out : GoesOut came t mid = λ q. c.swap_remove.ensures.updates.0 q in
    let put : RenewsOne new t c.args.number moment ls c.renew.new.self mid next = c.renew.ensures in
    let at = put.0 in
    let l = put.1 in
    let under : lease_of (as_leases first before moment given) t ≡ Some c.args.number = subst (λ (s : Leased). lease_of s.leases t ≡ Some c.args.number) (sym c.self.view_is) c.requires in
    let was : as_leases ls came moment given ≡ as_leases first before moment given = seen_shown first ls before came moment given same same_came in
    let takes = under_new_takes old new ls at l came mid next free moment given c.args.number t opens holds.0 holds.1 put.2 out put.3 put.5 (subst (λ (s : Leases). lease_of s t ≡ Some c.args.number) (sym was) under) in
    let from_first = subst (λ (s : Leases). TakesNew t (record { board = old; leases = s }) (record { board = new; leases = as_leases (set ls at l) next moment given })) was takes in
    let to_last = subst (λ (xs : List StoredLease). TakesNew t (record { board = old; leases = as_leases first before moment given }) (record { board = new; leases = as_leases xs next moment given })) (sym put.4) from_first in
    subst (λ (s : Leased). TakesNew t s (record { board = new; leases = as_leases c.renew.new.self next moment given })) c.self.view_is to_last

pub returns-in-Err-clause-leases : goal.returns-in-Err-clause-leases
returns-in-Err-clause-leases c =
    seen_shown c.self.inside.live c.make_room.new.self c.self.inside.came_under.entries c.reserve.new.self.entries c.self.inside.moment c.self.inside.given c.make_room.ensures.shown c.in_ok-reserve.ensures.entries
    ∙ ap (λ (s : Leased). s.leases) c.self.view_is
