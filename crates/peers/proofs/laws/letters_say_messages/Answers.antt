use Rattle.peers.proofs.ByLetters.{letters_ask, letters_give_up, letters_grant}
use Rattle.peers.proofs.laws.letters_say_messages.Goals as goal

pub returns-clause-asks : goal.returns-clause-asks
returns-clause-asks c = λ line m reads. letters_ask line m reads

pub returns-clause-holdouts : goal.returns-clause-holdouts
returns-clause-holdouts c = λ line m reads. letters_give_up line m reads

pub returns-clause-grants : goal.returns-clause-grants
returns-clause-grants c = λ era number table more e n. letters_grant era number table more e n
