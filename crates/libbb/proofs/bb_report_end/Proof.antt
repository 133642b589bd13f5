-- `bb_report_end` takes the reader from the place, and has it report.
use Rattle.std.proofs.Common.{◌≡◌, ℕ, [], ◌∷◌, ◌++◌, List, refl, sym, ap, ◌∙◌, subst}
use Rattle.std.proofs.raw_atomic.Walks.{proved_at}
use base.Fraction.{full_share}
use base.Logic.{SProp, id⊢}
use base.Fml.{ftrue, fsep, fat}
use lib.Dec.{T}
use mir.Val.{Val, vptr, has_ty, WT}
use prog.Wp.{WpFn}
use contract.Monad.{fact}
use contract.Running.{tables}
use types.Kit.{‵, raw, ◌⊛◌, some, later, prop, at_ret, ◌$◌, ◌∵◌, !, qed, done, move, keep, drop, use1, split, join, fsplit, fjoin, fpick, pick, await, rewrite, regoal, suffices}
use types.Run.{enter, of_opd, load, look, stop, no_more, and_then, first, blocks, exec, returns}
use types.ByLocal.{alloc_all, pass_all, free_all, look_at, get, through, sets, sets_last, lands_as, env}
use denote.Exit.{yes}
use denote.Laws.{Is, Typed, shows}
use denote.Memory.{lone}
use denote.Param.{layout}
use denote.RawPtr.{Ptr, RawPtr, ptr_val, lies_at, in_a_block}
use denote.Signature.{plain}
use denote.Steps.{nothing, heard, peeks, only}
use denote.Struct.Members.{Lone}
use denote.Triple.Call.{calls_at}
use denote.Triple.Clauses.{Lasts, lasts}
use denote.Triple.Entry.{alive}
use denote.Triple.Spec.{triple_of}
use denote.Triple.Walked.{Stays, says, walk_of, stay_dropped, Goes-dropped, ends_at}
use denote.Triple.Table.{framed}
use borrow.Table.OneValue.{part_out}
use Rattle.law_turing.specs.Terms.{IsRado}
use Rattle.ledger.specs.Terms.{IsSigma}
use Rattle.std.specs.contracts.alloc.Global.{the_row as Heap}
use Rattle.std.proofs.alloc.Global.TheLaws as heap_laws
use Rattle.libbb.specs.Pieces.{HasCome, reader_at}
use Rattle.libbb.specs.TreeAnswer.{Reports}
use Rattle.libbb.specs.declared.reader.Reader.{Reader}
use Rattle.libbb.specs.declared.tree_answer.TreeAnswer.{TreeAnswer}
use Rattle.libbb.specs.contracts.reader.Reader.{the_row as R}
use Rattle.libbb.specs.contracts.tree_answer.TreeAnswer.{the_row as A}
use Rattle.libbb.proofs.reader.Reader.TheLaws.{the_row_laws}
use Rattle.libbb.proofs.tree_answer.TreeAnswer.TheLaws.{the_row_laws as answer_laws}
use Rattle.libbb.specs.contracts.bb_report_end as f
use Rattle.libbb.proofs.bb_report_end.Statement.{statement}
use Rattle.libbb.proofs.bb_report_end.Code as code
use Rattle.libbb.specs.contracts.reader.Reader.report as g
use Rattle.libbb.proofs.reader.Reader.report.Met.{met}

lone_is : (vs : List Val) → Lone vs → vs ≡ only vs ∷ []
lone_is [] l = absurd l
lone_is (v ∷ []) l = refl
lone_is (v ∷ u ∷ us) l = absurd l

abbrev stayed : Stays f.ended.signature.params f.ended.kept
stayed = (stay_dropped (plain (λ _. Heap)) yes, (stay_dropped (plain (λ _. RawPtr)) yes, tt))

abbrev IsBest : TreeAnswer → Type 0
IsBest x = x.outcome ≡ 0 → x.is_whole ≡ 1 → x.has_best ≡ 1 → IsRado x.states x.best

abbrev IsMostOnes : TreeAnswer → Type 0
IsMostOnes x = x.outcome ≡ 0 → x.is_whole ≡ 1 → x.has_ones ≡ 1 → IsSigma x.states x.ones

pub bb_report_end_spec : {M : Type 1} → statement M
bb_report_end_spec 𝓤 𝓛 𝓜 𝓡 wired =
    let c = f.clauses 𝓛 𝓜.mem 𝓡.returns in let W = walk_of 𝓛 f.ended stayed c in let 𝓣 = tables 𝓤 𝓛.H 𝓜 𝓡 𝓡.env in
    proved_at 𝓛 f.ended stayed c 𝓜 𝓡 (Goes-dropped 𝓛 0 (plain (λ _. Heap)) yes (λ κs x w. refl), (Goes-dropped 𝓛 0 (plain (λ _. RawPtr)) yes (λ κs x w. refl), tt))
    f.Key.name code.function (code.unfolded 𝓤 𝓛.H 𝓜 𝓡 wired) (λ z are.
    let Post : Val → SProp 𝓤 = W.post z in let al = z.0.3.0 in let p : Ptr = z.0.3.1.0 in let text : List ℕ = z.1 in
    let w : Val = only z.0.4.0 in
    let is_al : z.0.4.0 ≡ w ∷ [] = lone_is z.0.4.0 (heap_laws.the_row_laws.single al z.0.4.0 are.0) in
    let good = (subst (Typed (layout Heap ∷ [])) is_al ((heap_laws.the_row_laws.lawful 𝓛).typed al z.0.4.0 are.0)).0 in
    let G = triple_of 𝓛 g.signature (g.spec 𝓛 𝓜.mem 𝓡.returns) in
    qed 𝓛 ((raw (alive 𝓛 f.signature z.0.0 z.0.1) ⊛ ‵ (fsep (Heap.own_val al z.0.4.0) (fsep (RawPtr.own_val p z.0.4.1.0) ftrue))) ∷ ‵ (reader_at p text) ∷ []) ∵
    split ! $ drop ! $ fsplit ! $ rewrite ! 0 (λ (us : List Val). ‵ (Heap.own_val al us)) is_al refl $ move ! (2 ∷ 0 ∷ []) $
    -- [the reader; the handle; what the pointer owns]
    fpick ! (λ r. fpick ! (λ come. in_a_block ! p (λ s. lies_at R full_share s r) (id⊢ 𝓤 _) (λ b o e.
    use1 𝓛 (some (λ (v : Val). ‵ (fat full_share (lone R.mir) b o v) ⊛ ‵ (R.own_val r (v ∷ [])))) (part_out 𝓛 R refl full_share r b o) $ pick ! (λ v. split ! $ move ! (1 ∷ []) $
    peeks ! R (Is R) (shows 𝓛 R) r (v ∷ []) (λ is. let t = ((the_row_laws.lawful 𝓛).typed r (v ∷ []) is).0 in
    let is_p : z.0.4.1.0 ≡ vptr b o ∷ [] = are.1.0 ∙ ap (λ (s : Ptr). ptr_val s ∷ []) e in
    regoal ! (λ (us : List Val). prop (WpFn 𝓤 𝓛.H 𝓣.C 𝓣.Λ code.function (us ++ (z.0.4.1.0 ++ [])) Post)) is_al refl $
    regoal ! (λ (us : List Val). prop (WpFn 𝓤 𝓛.H 𝓣.C 𝓣.Λ code.function ((w ∷ []) ++ (us ++ [])) Post)) is_p refl $
    enter ! 𝓣.C 𝓣.Λ code.function (w ∷ vptr b o ∷ []) Post $ alloc_all ! (λ l. pass_all ! refl (good, ((tt, tt), tt)) $
    -- [what the reader owns; its cell; the handle; what the pointer owns; the locals]
    first ! $ blocks ! $ sets ! (of_opd ! (get ! refl)) refl (tt, tt) $ sets_last ! (of_opd ! (load ! (through ! refl (stop !)) (look ! 1 refl))) refl t $
    exec ! 𝓣.C 𝓣.Λ (env code.Mir.locals l) code.Mir.t-2 (at_ret (env code.Mir.locals l) Post) $
    sets ! (of_opd ! (get ! refl)) refl t $ sets ! (of_opd ! (get ! refl)) refl t $
    let y : G.Ghost = ((tt, tt, tt, (r, (al, tt)), (v ∷ [], (w ∷ [], tt))), tt) in
    nothing ! $ move ! (3 ∷ 0 ∷ []) $ fjoin ! $ move ! (1 ∷ 0 ∷ []) $ fjoin ! $ nothing ! $ join ! $ nothing ! $ move ! (1 ∷ 0 ∷ []) $ join ! $ use1 𝓛 (raw (G.pre y)) (id⊢ 𝓤 _) $
    calls_at ! (framed 𝓤 𝓛.H 𝓜 (tables 𝓤 𝓛.H 𝓜 𝓡 𝓡.env)) G (met 𝓤 𝓛 𝓜 𝓡 (code.calls-libbb::reader::Reader::report 𝓡.env wired)) y
    (and_then ! (get ! refl) (and_then ! (get ! refl) (no_more !))) (λ u.
    use1 𝓛 (later (some (λ (x : A.Denot). (‵ ftrue ⊛ ‵ (A.own_val x (u ∷ []))) ⊛ some (λ (ws : Lasts g.ended tt (r, (al, tt))). ‵ (lasts g.ended tt (r, (al, tt)) ws)
    ⊛ (raw (fact 𝓤 ((s : List ℕ) → HasCome s r → Reports s x)) ⊛ (raw (fact 𝓤 (IsBest x)) ⊛ raw (fact 𝓤 (IsMostOnes x)))))))) (id⊢ 𝓤 _) $
    await ! tt $ pick ! (λ x. split ! $ split ! $ drop ! $
    peeks ! A (Is A) (shows 𝓛 A) x (u ∷ []) (λ told. let good_x = ((answer_laws.lawful 𝓛).typed x (u ∷ []) told).0 in
    move ! (1 ∷ []) $ pick ! (λ ws. split ! $ drop ! $ split ! $ heard ! ((s : List ℕ) → HasCome s r → Reports s x) (λ reports.
    split ! $ heard ! (IsBest x) (λ best. heard ! (IsMostOnes x) (λ ones.
    lands_as ! refl refl good_x $ returns ! (look_at ! 0 refl) $ free_all ! refl $ keep ! (0 ∷ []) $
    suffices ! _ (ends_at 𝓛 f.ended stayed c z u x (tt, (tt, tt)) (tt, (tt, tt))) $ says ! (reports text come, best, ones) $
    nothing ! $ nothing ! $ join ! $ nothing ! $ join ! $ nothing ! $ done !))))))))))))))
