use Rattle.std.proofs.Common.{arith, ◌≡◌, ◌≤◌, ◌-◌, ◌∙◌, sym, ap, ℕ, List, ◌++◌, take}
use Rattle.std.proofs.lemmas.List.{take-append-le}
use Rattle.cmd_options.specs.declared.ended.Ended.{Ended}
use Rattle.wire.specs.Terms.{MemoryLink}
use Rattle.cmd_nodes.specs.Moving.{IsPartlyRead}
use Rattle.cmd_nodes.proofs.Traffic.{inbox_alone, of_fault, read_in_vain, read_on, took_within}
use Rattle.cmd_nodes.proofs.couriers.read_piece.Goals as goal

pub returns-in_err-deliver-clause-err : goal.returns-in_err-deliver-clause-err
returns-in_err-deliver-clause-err g c =
    let inv = c.reads.invariant in
    let came = c.in_ok-came.ensures in
    let within = inv.within in
    let fits : c.in_ok-came.came ≤ c.reads.left = took_within c.in_ok-came.came c.reads.left c.read.new.buf c.reads.buf came.bound.0 c.read.auto.buf in
    let many = came.bound.1 in
    of_fault c.from_residual-in_err-deliver.result
    (λ (e : Ended). IsPartlyRead e c.args.count (g.R.Read.remaining c.args.far.now) c.args.to.now.waiting (g.R.Read.remaining c.read.new.self) c.deliver.new.self.waiting) _
    c.from_residual-in_err-deliver.ensures.1
    (λ e is. read_in_vain e (c.args.count - c.reads.left) c.args.count (g.R.Read.remaining c.args.far.now) (g.R.Read.remaining c.reads.far) (g.R.Read.remaining c.read.new.self)
    c.args.to.now.waiting c.reads.to.waiting c.deliver.new.self.waiting (take c.in_ok-came.came c.read.new.buf) inv.has_read (omega (arith, fits, within, many)) came.bytes.0
    (ap (λ (m : MemoryLink). m.waiting) c.in_err-deliver.ensures.err) is)

pub reads-preserved : goal.reads-preserved
reads-preserved g c =
    let inv = c.reads.invariant in
    let came = c.in_ok-came.ensures in
    let within = inv.within in
    let fits : c.in_ok-came.came ≤ c.reads.left = took_within c.in_ok-came.came c.reads.left c.read.new.buf c.reads.buf came.bound.0 c.read.auto.buf in
    let bytes : List ℕ = take c.in_ok-came.came c.read.new.buf in
    let delivered : c.deliver.new.self.waiting ≡ c.reads.to.waiting ++ bytes =
    ap (λ (m : MemoryLink). m.waiting) c.in_ok-deliver.ensures.ok ∙ ap (λ (l : List ℕ). c.reads.to.waiting ++ l) (take-append-le _ _ _ came.bound.0) in
    record {
      within = omega arith;
      has_read =
          read_on (c.args.count - c.reads.left) c.in_ok-came.came (c.args.count - (c.reads.left - c.in_ok-came.came)) (g.R.Read.remaining c.args.far.now)
          (g.R.Read.remaining c.reads.far) (g.R.Read.remaining c.read.new.self) c.args.to.now.waiting c.reads.to.waiting c.deliver.new.self.waiting bytes inv.has_read
          (sym came.bound.1) (omega arith) came.bytes.0 delivered;
      inbox = inbox_alone c.args.to.now c.reads.to c.deliver.new.self _ c.in_ok-deliver.ensures.ok inv.inbox;
    }
