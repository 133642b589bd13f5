-- What the getters of clap's matches give.
use Rattle.std.proofs.Common.{◌≡◌, ℕ, true, List, Option, Some, None, refl}
use Rattle.std.specs.Borrow.{Bor}
use Rattle.std.specs.Prelude.{is_none, option_map}

pub none_text : (given : Option (Bor (List ℕ))) → is_none given ≡ true → option_map (λ text. text.now) given ≡ None
none_text None none = refl
none_text (Some text) none = cc

-- a name and its matches, of one subcommand
pub both_of : {B X Y : Type 0} (f : B → X) (g : B → Y) (met : Option B) (x : X) (y : Y) → option_map f met ≡ Some x
    → option_map (λ (p : X × Y). p.1) (option_map {U = X × Y} (λ b. (f b, g b)) met) ≡ Some y → option_map {U = X × Y} (λ b. (f b, g b)) met ≡ Some (x, y)
both_of f g None x y first second = cc
both_of f g (Some b) x y first second = cc
