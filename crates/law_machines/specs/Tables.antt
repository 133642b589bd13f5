-- The machines whose proofs stand in this crate, by the texts of their tables in the bbchallenge standard format. Their
-- names are their places in the list of machines that Georgiev's search of 2003 left open, which he signed as Skelet.
use Rattle.std.specs.Prelude.{ℕ, List, codes}
use Rattle.law_machines.specs.declared.machines.ProvedMachine.{ProvedMachine}
use Rattle.law_machines.specs.declared.machines.ProvedMachine.TheVariants.{Skelet10, Skelet15, Skelet17, Skelet26, Skelet33, Skelet34, Skelet35}

unfoldable pub table_text : ProvedMachine → List ℕ
table_text Skelet10 = codes "1RB0RA_0LC1RA_1RE1LD_1LC0LD_---0RB"
table_text Skelet15 = codes "1RB---_1RC1LB_1LD1RE_1LB0LD_1RA0RC"
table_text Skelet17 = codes "1RB---_0LC1RE_0LD1LC_1RA1LB_0RB0RA"
table_text Skelet26 = codes "1RB1LD_1RC0RB_1LA1RC_1LE0LA_1LC---"
table_text Skelet33 = codes "1RB1LC_0RC0RB_1LD0LA_1LE---_1LA1RE"
table_text Skelet34 = codes "1RB1LC_0RC0RB_1LD0LA_1LE---_1LA1RA"
table_text Skelet35 = codes "1RB1LC_0RC0RB_1LD0LA_1LE---_1LA0LA"

-- what a machine is called
abbrev pub machine_name : ProvedMachine → List ℕ
machine_name Skelet10 = codes "Skelet 10"
machine_name Skelet15 = codes "Skelet 15"
machine_name Skelet17 = codes "Skelet 17"
machine_name Skelet26 = codes "Skelet 26"
machine_name Skelet33 = codes "Skelet 33"
machine_name Skelet34 = codes "Skelet 34"
machine_name Skelet35 = codes "Skelet 35"
