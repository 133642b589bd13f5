use Rattle.law_turing.proofs.AutomataLaws.{fits_mirrored, mirrored_translated, translated_mirrored, mirror_image_fits}
use Rattle.law_turing.proofs.laws.mirror_sides.Goals as goal

pub returns : goal.returns
returns c = record {
  translated = λ m i j side. (mirrored_translated m i j side, translated_mirrored m i j side);
  automata = λ n m side a. (fits_mirrored n m side a, mirror_image_fits n m side a);
}
