-- The kinds of certificates on a page: their letters in order, and what each is called. Letters are bytes.
use Rattle.std.specs.Prelude.{ℕ, List, ◌==◌, if◌then◌else◌, codes, []}

abbrev pub kind_letters : List ℕ
kind_letters = codes "HLCTBNFAWRPU"

-- the letter and the name of its kind, as HTML
abbrev pub kind_label : ℕ → List ℕ
kind_label letter =
    if letter == 72 then codes "<code>H</code> halting"
    else if letter == 76 then codes "<code>L</code> halting late"
    else if letter == 67 then codes "<code>C</code> cycler"
    else if letter == 84 then codes "<code>T</code> translated cycler"
    else if letter == 66 then codes "<code>B</code> backward reasoning"
    else if letter == 78 then codes "<code>N</code> n-gram CPS"
    else if letter == 70 then codes "<code>F</code> finite automata reduction (FAR)"
    else if letter == 65 then codes "<code>A</code> finite automata reduction, edges listed"
    else if letter == 87 then codes "<code>W</code> counted automata"
    else if letter == 82 then codes "<code>R</code> rules with induction"
    else if letter == 80 then codes "<code>P</code> proof of its own"
    else if letter == 85 then codes "<code>U</code> holdout"
    else []
