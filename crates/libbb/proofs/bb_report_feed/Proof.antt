-- `bb_report_feed` takes the reader from the place, feeds it, and puts it back.
use Rattle.std.proofs.Common.{◌≡◌, ℕ, [], ◌∷◌, ◌++◌, List, length, refl, sym, ap, ◌∙◌, subst}
use Rattle.std.proofs.raw_atomic.Walks.{proved_at}
use base.Fraction.{full_share}
use base.Logic.{SProp, id⊢}
use base.Fml.{ftrue, fsep, fex, fat, flft}
use mir.Syntax.{named}
use mir.Val.{Val, vptr, vunit}
use prog.Wp.{WpFn}
use contract.Monad.{fact}
use contract.Running.{tables}
use types.Kit.{‵, raw, ◌⊛◌, some, later, prop, at_ret, ◌$◌, ◌∵◌, !, qed, done, move, keep, drop, use1, use2, split, join, fsplit, fjoin, fpick, fpack, pick, await, rewrite, regoal, suffices, feq_i, group}
use types.Run.{enter, of_opd, unit_lit, load, look, store, stop, no_more, and_then, assigns_last, first, blocks, exec, returns}
use types.ByLocal.{alloc_all, pass_all, free_all, look_at, get, through, sets, sets_last, lands_as, env}
use denote.Exit.{yes}
use denote.Builtin.{u8, SliceRefOf}
use denote.Laws.{Is, Typed, shows}
use denote.Memory.{lone, part_at}
use denote.Param.{layout}
use denote.RawPtr.{Ptr, RawPtr, ptr_val, lies_at, in_a_block}
use denote.Ref.{Bor}
use denote.Signature.{plain}
use denote.Slice.{ShrSlice, slice_val, shr_slice_Tells}
use denote.Steps.{nothing, heard, peeks, only}
use denote.Struct.Members.{Lone}
use denote.Triple.Call.{calls_at}
use denote.Triple.Clauses.{Lasts, lasts}
use denote.Triple.Spec.{triple_of}
use denote.Triple.Walked.{Stays, walk_of, stay_dropped, Goes-dropped, ends_at}
use denote.Triple.Table.{framed}
use borrow.Table.OneValue.{part_out, part_in}
use Rattle.std.specs.contracts.alloc.Global.{the_row as Heap}
use Rattle.std.proofs.alloc.Global.TheLaws as heap_laws
use Rattle.libbb.specs.Pieces.{HasCome, reader_at}
use Rattle.libbb.specs.declared.reader.Reader.{Reader}
use Rattle.libbb.specs.contracts.reader.Reader.{the_row as R}
use Rattle.libbb.proofs.reader.Reader.TheLaws.{the_row_laws}
use Rattle.libbb.specs.contracts.bb_report_feed as f
use Rattle.libbb.proofs.bb_report_feed.Statement.{statement}
use Rattle.libbb.proofs.bb_report_feed.Code as code
use Rattle.libbb.specs.contracts.reader.Reader.fed as g
use Rattle.libbb.proofs.reader.Reader.fed.Met.{met}

lone_is : (vs : List Val) → Lone vs → vs ≡ only vs ∷ []
lone_is [] l = absurd l
lone_is (v ∷ []) l = refl
lone_is (v ∷ u ∷ us) l = absurd l

abbrev stayed : Stays f.ended.signature.params f.ended.kept
stayed = (stay_dropped (plain (λ _. Heap)) yes, (stay_dropped (plain (λ _. RawPtr)) yes, (stay_dropped (SliceRefOf (0 ∷ []) tt (plain (λ _. u8)) (λ _. tt)) yes, tt)))

pub bb_report_feed_spec : {M : Type 1} → statement M
bb_report_feed_spec 𝓤 𝓛 𝓜 𝓡 wired =
    let c = f.clauses 𝓛 𝓜.mem 𝓡.returns in let W = walk_of 𝓛 f.ended stayed c in let 𝓣 = tables 𝓤 𝓛.H 𝓜 𝓡 𝓡.env in
    proved_at 𝓛 f.ended stayed c 𝓜 𝓡 (
      Goes-dropped 𝓛 1 (plain (λ _. Heap)) yes (λ κs x w. refl),
      (
        Goes-dropped 𝓛 1 (plain (λ _. RawPtr)) yes (λ κs x w. refl),
        (Goes-dropped 𝓛 1 (SliceRefOf (0 ∷ []) tt (plain (λ _. u8)) (λ _. tt)) yes (λ κs x w. refl), tt),
      ),
    )
    f.Key.name code.function (code.unfolded 𝓤 𝓛.H 𝓜 𝓡 wired) (λ z are.
    let Post : Val → SProp 𝓤 = W.post z in let al = z.0.3.0 in let p : Ptr = z.0.3.1.0 in let piece : Bor (List ℕ) = z.0.3.1.1.0 in let text : List ℕ = z.1 in
    let κs = z.0.0 in let qs = z.0.1 in let Piece = ShrSlice (named 0) κs.0 u8 in
    let w : Val = only z.0.4.0 in let s : Val = slice_val piece.ref_ptr (length piece.now) in
    let is_al : z.0.4.0 ≡ w ∷ [] = lone_is z.0.4.0 (heap_laws.the_row_laws.single al z.0.4.0 are.0) in
    let good = (subst (Typed (layout Heap ∷ [])) is_al ((heap_laws.the_row_laws.lawful 𝓛).typed al z.0.4.0 are.0)).0 in
    let is_piece : z.0.4.1.1.0 ≡ s ∷ [] = shr_slice_Tells (named 0) κs.0 u8 piece z.0.4.1.1.0 are.1.1.0 in
    let fits = are.1.1.0.0.1.0 in
    let G = triple_of 𝓛 g.signature (g.spec 𝓛 𝓜.mem 𝓡.returns) in
    qed 𝓛 (((‵ (flft κs.0 qs.0) ⊛ ‵ ftrue) ⊛ ‵ (fsep (Heap.own_val al z.0.4.0) (fsep (RawPtr.own_val p z.0.4.1.0) (fsep (Piece.own_val piece z.0.4.1.1.0) ftrue)))) ∷ ‵ (reader_at p text) ∷ []) ∵
    split ! $ split ! $ move ! (2 ∷ []) $ fsplit ! $ rewrite ! 0 (λ (us : List Val). ‵ (Heap.own_val al us)) is_al refl $ move ! (1 ∷ []) $ fsplit ! $ drop ! $ fsplit ! $
    rewrite ! 0 (λ (us : List Val). ‵ (Piece.own_val piece us)) is_piece refl $ move ! (5 ∷ 0 ∷ 2 ∷ 3 ∷ []) $
    -- [the reader; the piece; the handle; the token of its lifetime; ..]
    fpick ! (λ r. fpick ! (λ come. in_a_block ! p (λ x. lies_at R full_share x r) (id⊢ 𝓤 _) (λ b o e.
    use1 𝓛 (some (λ (v : Val). ‵ (fat full_share (lone R.mir) b o v) ⊛ ‵ (R.own_val r (v ∷ [])))) (part_out 𝓛 R refl full_share r b o) $ pick ! (λ v. split ! $ move ! (1 ∷ []) $
    peeks ! R (Is R) (shows 𝓛 R) r (v ∷ []) (λ is. let t = ((the_row_laws.lawful 𝓛).typed r (v ∷ []) is).0 in
    let is_p : z.0.4.1.0 ≡ vptr b o ∷ [] = are.1.0 ∙ ap (λ (x : Ptr). ptr_val x ∷ []) e in
    regoal ! (λ (us : List Val). prop (WpFn 𝓤 𝓛.H 𝓣.C 𝓣.Λ code.function (us ++ (z.0.4.1.0 ++ (z.0.4.1.1.0 ++ []))) Post)) is_al refl $
    regoal ! (λ (us : List Val). prop (WpFn 𝓤 𝓛.H 𝓣.C 𝓣.Λ code.function ((w ∷ []) ++ (us ++ (z.0.4.1.1.0 ++ []))) Post)) is_p refl $
    regoal ! (λ (us : List Val). prop (WpFn 𝓤 𝓛.H 𝓣.C 𝓣.Λ code.function ((w ∷ []) ++ ((vptr b o ∷ []) ++ (us ++ []))) Post)) is_piece refl $
    enter ! 𝓣.C 𝓣.Λ code.function (w ∷ vptr b o ∷ s ∷ []) Post $ alloc_all ! (λ l. pass_all ! refl (good, ((tt, tt), ((tt, (tt, (record { fits = fits }, tt))), tt))) $
    -- [what the reader owns; its cell; the piece; the handle; the token; ..; the locals]
    first ! $ blocks ! $ sets ! (of_opd ! (get ! refl)) refl (tt, tt) $ sets_last ! (of_opd ! (load ! (through ! refl (stop !)) (look ! 1 refl))) refl t $
    exec ! 𝓣.C 𝓣.Λ (env code.Mir.locals l) code.Mir.t-2 (at_ret (env code.Mir.locals l) Post) $
    sets ! (of_opd ! (get ! refl)) refl t $ sets ! (of_opd ! (get ! refl)) refl t $
    let y : G.Ghost = ((κs, qs, z.0.2, (r, (al, (piece, tt))), (v ∷ [], (w ∷ [], (s ∷ [], tt)))), tt) in
    nothing ! $ move ! (3 ∷ 0 ∷ []) $ fjoin ! $ move ! (3 ∷ 0 ∷ []) $ fjoin ! $ move ! (1 ∷ 0 ∷ []) $ fjoin ! $
    nothing ! $ move ! (3 ∷ 0 ∷ []) $ join ! $ join ! $ nothing ! $ move ! (1 ∷ 0 ∷ []) $ join ! $ use1 𝓛 (raw (G.pre y)) (id⊢ 𝓤 _) $
    calls_at ! (framed 𝓤 𝓛.H 𝓜 (tables 𝓤 𝓛.H 𝓜 𝓡 𝓡.env)) G (met 𝓤 𝓛 𝓜 𝓡 (code.calls-libbb::reader::Reader::fed 𝓡.env wired)) y
    (and_then ! (get ! refl) (and_then ! (get ! refl) (and_then ! (get ! refl) (no_more !)))) (λ u.
    use1 𝓛 (later (some (λ (x : R.Denot). ((‵ (flft κs.0 qs.0) ⊛ ‵ ftrue) ⊛ ‵ (R.own_val x (u ∷ []))) ⊛ some (λ (ws : Lasts g.ended κs (r, (al, (piece, tt)))).
    ‵ (lasts g.ended κs (r, (al, (piece, tt))) ws) ⊛ raw (fact 𝓤 ((a : List ℕ) → HasCome a r → HasCome (a ++ piece.now) x)))))) (id⊢ 𝓤 _) $
    await ! tt $ pick ! (λ x. split ! $ split ! $ move ! (1 ∷ []) $
    peeks ! R (Is R) (shows 𝓛 R) x (u ∷ []) (λ told. let t' = ((the_row_laws.lawful 𝓛).typed x (u ∷ []) told).0 in
    move ! (2 ∷ []) $ pick ! (λ ws. split ! $ drop ! $ heard ! ((a : List ℕ) → HasCome a r → HasCome (a ++ piece.now) x) (λ feeds.
    -- [what the reader owns; the tokens; its cell; ..; the locals]
    lands_as ! refl refl t' $
    first ! $ blocks ! $ sets ! (of_opd ! (get ! refl)) refl (tt, tt) $ sets ! (of_opd ! (get ! refl)) refl t' $
    assigns_last ! (of_opd ! (get ! refl)) (through ! refl (stop !)) (store ! 2 refl t') $
    exec ! 𝓣.C 𝓣.Λ (env code.Mir.locals l) code.Mir.t-6 (at_ret (env code.Mir.locals l) Post) $
    sets ! (of_opd ! (unit_lit !)) refl (tt, tt) $ returns ! (look_at ! 0 refl) $ free_all ! refl $ keep ! (2 ∷ 0 ∷ 1 ∷ []) $
    use2 𝓛 (‵ (part_at R full_share x b o)) (part_in 𝓛 R refl full_share x b o u) $ rewrite ! 0 (λ (q : Ptr). ‵ (lies_at R full_share q x)) (sym e) refl $
    fpack ! (HasCome (text ++ piece.now) x) (λ _. lies_at R full_share p x) (feeds text come) $
    fpack ! Reader (λ k. fex (HasCome (text ++ piece.now) k) (λ _. lies_at R full_share p k)) x $
    suffices ! _ (ends_at 𝓛 f.ended stayed c z vunit tt (tt, (tt, (tt, tt))) (tt, (tt, (tt, tt)))) $
    feq_i ! _ (vunit ∷ []) _ refl $ nothing ! $ nothing ! $ join ! $ nothing ! $ join ! $ nothing ! $ join ! $ move ! (3 ∷ []) $ group ! 3 $ done !))))))))))))
