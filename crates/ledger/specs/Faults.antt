-- The refusal number of each fault, which refused memory doesn't have, and the sentence that says it.
use Rattle.std.specs.Prelude.{ℕ, List, Option, Some, None, codes}
use Rattle.kind_evidence.specs.declared.verdicts.Refused.TheVariants.{Fails, TooLong, TooWide, NotSeen, NoMemory as WantsMemory}
use Rattle.kind_evidence.specs.Terms.{refused_number}
use Rattle.cert.specs.Terms.{record_fault_text}
use Rattle.ledger.specs.declared.faults.BoardFault.{BoardFault}
use Rattle.ledger.specs.declared.faults.BoardFault.TheVariants.{NotInOrder, NoMemory as NoBoardMemory}
use Rattle.ledger.specs.declared.faults.OfferFault.{OfferFault}
use Rattle.ledger.specs.declared.faults.OfferFault.TheVariants.{WrongSize, NotOpen, Refused as IsRefused, NoMemory as NoOfferMemory}
use Rattle.ledger.specs.declared.faults.LoadFault.{LoadFault}
use Rattle.ledger.specs.declared.faults.LoadFault.TheVariants.{BadHeader, WrongRoot, NoMemory as NoLoadMemory}
use Rattle.ledger.specs.declared.faults.MergeFault.{MergeFault}
use Rattle.ledger.specs.declared.faults.MergeFault.TheVariants.{WrongRoot as OtherRoot, NoMemory as NoMergeMemory}
use Rattle.ledger.specs.declared.loading.Unkept.{Unkept}
use Rattle.ledger.specs.declared.loading.Unkept.TheVariants.{Torn, Unread, Unfit, Repeated}

abbrev pub board_fault_number : BoardFault → Option ℕ
board_fault_number NotInOrder = Some 401
board_fault_number NoBoardMemory = None

abbrev pub offer_fault_number : OfferFault → Option ℕ
offer_fault_number NotOpen = Some 402
offer_fault_number WrongSize = Some 403
offer_fault_number (IsRefused f) = refused_number f
offer_fault_number NoOfferMemory = None

abbrev pub load_fault_number : LoadFault → Option ℕ
load_fault_number BadHeader = Some 404
load_fault_number WrongRoot = Some 405
load_fault_number NoLoadMemory = None

abbrev pub merge_fault_number : MergeFault → Option ℕ
merge_fault_number OtherRoot = Some 405
merge_fault_number NoMergeMemory = None

abbrev pub board_fault_text : BoardFault → List ℕ
board_fault_text NotInOrder = codes "the root does not name its states in order"
board_fault_text NoBoardMemory = codes "out of memory"

abbrev pub offer_fault_text : OfferFault → List ℕ
offer_fault_text WrongSize = codes "the table has another number of states than the root"
offer_fault_text NotOpen = codes "the table is neither open nor a holdout"
offer_fault_text (IsRefused Fails) = codes "the certificate does not stand for the table"
offer_fault_text (IsRefused TooLong) = codes "the certificate asks for more than its limit"
offer_fault_text (IsRefused TooWide) = codes "the certificate needs more paths at one depth than are kept"
offer_fault_text (IsRefused NotSeen) = codes "the check ended without an answer"
offer_fault_text (IsRefused WantsMemory) = codes "out of memory"
offer_fault_text NoOfferMemory = codes "out of memory"

abbrev pub load_fault_text : LoadFault → List ℕ
load_fault_text BadHeader = codes "the first line is no header of a ledger"
load_fault_text WrongRoot = codes "the ledger is of another root, or of one that does not name its states in order"
load_fault_text NoLoadMemory = codes "out of memory"

abbrev pub merge_fault_text : MergeFault → List ℕ
merge_fault_text OtherRoot = codes "the boards are of different roots"
merge_fault_text NoMergeMemory = codes "out of memory"

abbrev pub unkept_text : Unkept → List ℕ
unkept_text Torn = codes "the line has no end"
unkept_text (Unread fault) = record_fault_text fault
unkept_text (Unfit fault) = offer_fault_text fault
unkept_text Repeated = codes "the table is recorded already"
