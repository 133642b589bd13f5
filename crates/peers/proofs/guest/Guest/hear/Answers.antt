use Rattle.std.proofs.Common.{arith, ◌≡◌, ◌++◌, List, ℕ, ap, length, subst, sym, ◌∙◌}
use Rattle.text.specs.Terms.{cut_at}
use Rattle.peers.specs.Guest.{ShowsWhere, heard, heard_in}
use Rattle.peers.proofs.Guests.{shows_token}
use Rattle.peers.proofs.guest.Guest.hear.Goals as goal

pub returns-clause-shown : goal.returns-clause-shown
unfolding heard
returns-clause-shown c none =
    let token = c.args.token.now in
    let version = c.args.version.now in
    let guest = c.args.self.now in
    let piece = c.args.piece.now in
    let same : c.heard_in.result ≡ heard token version guest piece = grind arith in
    subst (ShowsWhere token version guest piece) (sym same) (shows_token token version guest piece none)
