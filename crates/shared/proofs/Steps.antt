-- What the walks over an `Owner` have in common. Assumes `Logic`.
--     block_made, block_out, block_back      the filled block is its count and the rest;  the last owner takes the rest apart;  and joins the fields again
--     owner_born, owner_made      the first owner;  a further one
--     lent_out, lent_back      an owner after a `&`, as a share of its token and the invariant
--     opens_shared, opens_owned, shut      the invariant is opened to the cell of the count, by a share or by an owner, and shut
use mathlib.Core.Path.{◌≡◌, refl, sym}
use mathlib.Core.Bool.{Bool, true}
use Prim.Native.Nat.{ℕ, ◌+◌, ◌<◌, ◌^◌}
use mathlib.Core.List.{List, [], ◌∷◌, ◌++◌}
use seplogic.Ra.Ura.{Ura}
use lib.Dec.{lit<}
use base.Fraction.{full_share}
use base.Share
use base.Mask.{every}
use mir.Syntax.{Ty, Tys, Sym, w64, ty_int, ty_struct, tcons, tnil}
use mir.Val.{Val, Vals, vint, vstruct, vcons, vnil}
use mir.Raw.{raw as bare}
use base.Logic.{SProp, ent, sep, all, wand, via, mono_r, never, id⊢, apply∗}
use base.Fml.{Fml, Lft, Incl, Incl-trans, Key, Share, ftrue, fsep, fex, fhide, fat, froom, flft, fbor, fobor, ftok}
use contract.BorrowLft.{meet_⊑_left, meet_⊑_right}
use contract.Monad.{conj_r}
use prog.Model.{fields_at, rooms_at}
use types.Logic.{Logic, sem}
use types.Kit.{Item, Goal, Seq, Step, Soaks, step, ‵, raw, some, later, given, ◌⊛◌, ◌$◌, ◌∵◌, !, qed, by, move, drop, use1, use2, use3, pick, learn, await, group, split, split3, join, frame, assume, fsplit, fsplit3, fjoin, fjoin3, fpick, fpack, flt_i, flt_l, rewrite, done}
use types.Tokens.{shr_bor-open, obor_close}
use types.Within.{tokens_halve}
use types.Na.{na_inv, na_inv_dup}
use types.RcWeak.{part, part_in}
use denote.Memory.{part_at, hidden_shr}
use denote.RawPtr.{Ptr, block_ptr, block_of, count_of, in_a_block, lies_at, ◌+ₚ◌}
use denote.Opens.{Shut, unhide}
use denote.Steps.{nothing}
use denote.Shares.{Shares-less}
use denote.Param.Laws.{param_laws}
use denote.Struct.Lending.{Lends, lent_at, Lends-lies, Lends-first}
use borrow.Table.OneValue.{part_in as stored, part_out as loaded}
use Rattle.core.proofs.alloc.Calls.{α, token, Fits}
use Rattle.std_alloc.proofs.RawLayout.{as_raw, as_written}
use Rattle.std_alloc.proofs.BoxSteps.Form.{Bx, X, τ, own, R, P}
use Rattle.std_alloc.proofs.BoxSteps.Steps.{el_out, el_in}
use Rattle.std_alloc.proofs.RcSteps.{Good, Word, word, word_ty, word_made, reads, read}
use Rattle.shared.specs.Ownership.{Id, shared_for, pass, Pass, Turn, Inv, owner, counter_at, block_type, allocator_offset, value_offset, fields_rejoin, dealloc_by, value_and_block, seen, shared_owns, shared_lends}
use Rattle.shared.proofs.Sticky as sticky

abbrev pub cell : ℕ → ℕ → ℕ → Fml
cell b o n = fat full_share (ty_int w64) b (o + 0) (vint w64 n)

module _ (E : Bx) where
  abbrev pub heap_at : ℕ
  heap_at = allocator_offset (P E) (R E)

  abbrev pub value_at : ℕ
  value_at = value_offset (P E) (R E)

  abbrev pub block_ty : Ty
  block_ty = block_type (P E) (R E)

  abbrev pub block_val : Val → Val → Val
  block_val hv v = vstruct (vcons (vint w64 1) (vcons hv (vcons v vnil)))

-- the words of specs/Ownership.antt at the block c and the value x
module _ (E : Bx) (c : Ptr) (x : X E) where
  abbrev pub key : Key
  key = (block_of c, count_of c)

  abbrev pub whole : Fml
  whole = value_and_block (P E) (token E.al) (R E) c x

  abbrev pub sees : Lft → Fml
  sees = seen (P E) (token E.al) (R E) c x

  abbrev pub box : Id → Fml
  box a = na_inv key (Inv key (counter_at c) whole a)

  abbrev pub turned : Id → ℕ → Fml
  turned = Turn key (counter_at c) whole

  abbrev pub owns_one : Fml
  owns_one = shared_owns (P E) (token E.al) (R E) c x

  abbrev pub lent : Lft → Fml
  lent = shared_lends (P E) (token E.al) (R E) c x

  abbrev pub Closes : {M : Type 1} {𝓤 : Ura M} (𝓛 : Logic 𝓤) → Id → Item 𝓤
  Closes 𝓛 a = raw (sticky.Shut key (counter_at c) whole 𝓛 a)

  abbrev pub Back : {M : Type 1} {𝓤 : Ura M} (𝓛 : Logic 𝓤) → Sym → Lft → Share → ℕ → ℕ → ℕ → Share → Share → Item 𝓤
  Back 𝓛 ν κ q b o i s q' = ‵ (fobor κ (Share.left q) (flft (i ∷ []) s)) ⊛ Shut 𝓛 κ (Share.right q) (part_at (Word E ν) q' (c, tt) b o)

module _ (E : Bx) {M : Type 1} {𝓤 : Ura M} (𝓛 : Logic 𝓤) (ν : Sym) (b o : ℕ) where
  open 𝓛 use {H}

  abbrev fields : Tys
  fields = tcons (ty_int w64) (tcons (α E.al) (tcons (τ E) tnil))

  abbrev Joins : SProp 𝓤
  Joins = wand 𝓤 (rooms_at 𝓤 H fields 0 b o) (H.room (ty_struct ν fields) b o)

  rejoins : ent 𝓤 Joins (sem 𝓛 (fields_rejoin (P E) (R E) (block_ptr b o)))
  rejoins =
      qed 𝓛 (raw Joins ∷ []) ∵
      assume ! (‵ (froom (ty_int w64) b (o + 0)) ⊛ ‵ (froom (bare (α E.al)) b (o + heap_at E)) ⊛ ‵ (froom (bare (τ E)) b (o + value_at E))) $ split3 ! $ move ! (1 ∷ []) $
      as_written ! (α E.al) b (o + heap_at E) $ move ! (2 ∷ []) $ as_written ! (τ E) b (o + value_at E) $ nothing ! $ move ! (3 ∷ 2 ∷ 1 ∷ 0 ∷ []) $ group ! 4 $
      use2 𝓛 (‵ (froom (ty_struct ν fields) b o)) (apply∗ 𝓤 (rooms_at 𝓤 H fields 0 b o) (H.room (ty_struct ν fields) b o)) $ by ! (𝓛.laws.room-raw (ty_struct ν fields) b o)

  pub block_made : (h : E.al.row.Denot) (x : X E) (hv v : Val)
      → ent 𝓤 (sep 𝓤 (H.at full_share (ty_struct ν fields) b o (block_val E hv v)) (sep 𝓤 (sem 𝓛 (token E.al h (block_ty E) (block_ptr b o))) (sep 𝓤 (sem 𝓛 (E.al.row.own_val h (hv ∷ []))) (sem 𝓛 (own E x (v ∷ []))))))
      (sep 𝓤 (sem 𝓛 (counter_at (block_ptr b o) 1)) (sem 𝓛 (whole E (block_ptr b o) x)))
  block_made h x hv v =
      let vs : Vals = vcons (vint w64 1) (vcons hv (vcons v vnil)) in
      qed 𝓛 (‵ (fat full_share (ty_struct ν fields) b o (block_val E hv v)) ∷ ‵ (token E.al h (block_ty E) (block_ptr b o)) ∷ ‵ (E.al.row.own_val h (hv ∷ [])) ∷ ‵ (own E x (v ∷ [])) ∷ []) ∵
      use1 𝓛 ((‵ (cell b o 1) ⊛ ‵ (fat full_share (α E.al) b (o + heap_at E) hv) ⊛ ‵ (fat full_share (τ E) b (o + value_at E) v) ⊛ ‵ ftrue) ⊛ raw Joins)
      (via 𝓤 _ (𝓛.laws.at_fields_free ν fields b o vs) (mono_r 𝓤 (fields_at 𝓤 H full_share fields 0 b o vs)
      (conj_r 𝓤 (all 𝓤 (λ (ws : Vals). wand 𝓤 (fields_at 𝓤 H full_share fields 0 b o ws) (H.at full_share (ty_struct ν fields) b o (vstruct ws)))) Joins))) $
      split ! $ split3 ! $ flt_i ! 1 (2 ^ 64) (lit< tt) $ fjoin ! $ frame ! $
      -- [the allocator's cell; the value's, and nothing; the way back; the token; the handle; the value]
      move ! (0 ∷ 4 ∷ []) $ use2 𝓛 (‵ (part_at (P E) full_share h b (o + heap_at E))) (stored 𝓛 (P E) refl full_share h b (o + heap_at E) hv) $ move ! (1 ∷ []) $ split ! $
      move ! (0 ∷ 5 ∷ []) $ use2 𝓛 (‵ (part_at (R E) full_share x b (o + value_at E))) (el_in E 𝓛 x b (o + value_at E) v) $ frame ! $ drop ! $
      move ! (1 ∷ []) $ use1 𝓛 (‵ (fields_rejoin (P E) (R E) (block_ptr b o))) rejoins $ move ! (1 ∷ 2 ∷ 0 ∷ []) $ fjoin3 ! $
      fpack ! E.al.row.Denot (dealloc_by (P E) (R E) (token E.al) (block_ptr b o)) h $ done !

module _ (E : Bx) (c : Ptr) (x : X E) {M : Type 1} {𝓤 : Ura M} {𝓛 : Logic 𝓤} {K : Type 0} {Γ : List (Item 𝓤)} {G : Goal 𝓤 𝓛.H} where
  box_twice : K → (a : Id) → Step K 𝓛 (‵ (box E c x a) ∷ ‵ (box E c x a) ∷ Γ) G (‵ (box E c x a) ∷ Γ) G
  box_twice t a = step (λ s. use1 𝓛 (‵ (box E c x a) ⊛ ‵ (box E c x a)) (na_inv_dup 𝓛 (key E c x) (Inv (key E c x) (counter_at c) (whole E c x) a)) $ split t $ s)

module _ (E : Bx) (c : Ptr) (x : X E) {M : Type 1} {𝓤 : Ura M} (𝓛 : Logic 𝓤) where
  lends : (l : Lft) → Incl l E.row.lives → Lends 𝓛 (whole E c x) (sees E c x) l
  lends l within = let at : Ptr = c +ₚ value_at E in
      Lends-first 𝓛 (lies_at (R E) full_share at x) (fex E.al.row.Denot (dealloc_by (P E) (R E) (token E.al) c)) (lent_at (R E) at x) l
      (Lends-lies 𝓛 (R E) l at x (Shares-less 𝓛 (R E) (R E).lives l within ((param_laws 0 E.row E.laws).shares 𝓛) x))

module _ (E : Bx) (c : Ptr) (x : X E) {M : Type 1} {𝓤 : Ura M} {𝓛 : Logic 𝓤} {K : Type 0} {Γ : List (Item 𝓤)} {G : Goal 𝓤 𝓛.H} where
  open 𝓛 use {H}

  pub owner_born : K → Soaks G → (κ : Lft) (q : Share) → Incl κ E.row.lives
      → Step K 𝓛 (‵ (owns_one E c x) ∷ ‵ (flft κ q) ∷ Γ) G (‵ (counter_at c 1) ∷ ‵ (whole E c x) ∷ ‵ (flft κ q) ∷ Γ) G
  owner_born t z κ q within = step (λ next.
      use2 𝓛 (later (some (λ (a : Id). ‵ (part 64 a.0) ⊛ ‵ (box E c x a) ⊛ ‵ (fbor (shared_for a) (whole E c x))))) (sticky.born (key E c x) (counter_at c) (whole E c x) 𝓛) $ await t z $ pick t (λ a. split3 t $
      fpick t (λ e. fpick t (λ one. move t (0 ∷ 3 ∷ []) $ join t $ move t (2 ∷ 0 ∷ []) $
      use2 𝓛 (later (‵ (sees E c x (shared_for a)) ⊛ ‵ (flft (shared_for a) e) ⊛ ‵ (flft κ q)))
      (lends E c x 𝓛 (shared_for a ++ κ) (Incl-trans (meet_⊑_right (shared_for a) κ) within) (shared_for a) ((shared_for a, e) ∷ (κ, q) ∷ []) (λ i m. m) (meet_⊑_left (shared_for a) κ)) $ await t z $ split3 t $
      move t (1 ∷ []) $ use1 𝓛 (‵ (part 64 a.0)) (part_in 64 𝓛 a.0 e one) $ fpack t Bool (pass a) true $ move t (0 ∷ 3 ∷ 1 ∷ []) $ fjoin3 t $
      fpack t Id (owner (key E c x) (counter_at c) (whole E c x) (sees E c x)) a $ next))))

  pub owner_made : K → (ν : Sym) (a : Id)
      → Step K 𝓛 (‵ (fsep ((Word E ν).own_val (c, tt) (word c ∷ [])) (owns_one E c x)) ∷ Γ) G (‵ (Pass a) ∷ ‵ (box E c x a) ∷ ‵ (sees E c x (shared_for a)) ∷ Γ) G
  owner_made t ν a = step (λ s.
      fjoin3 t $ fpack t Id (owner (key E c x) (counter_at c) (whole E c x) (sees E c x)) a $ word_made E ν c t $ fjoin t $ s)

  module _ (ν : Sym) (κ : Lft) (q : Share) (b o : ℕ) where
    -- [the share; the invariant; the word; the way back; the invariant; what every owner sees]
    pub lent_out : K → Soaks G
        → ((a : Id) (s q' : Share) → Seq K 𝓛 (‵ (flft (shared_for a) s) ∷ ‵ (box E c x a) ∷ ‵ (fat q' (word_ty ν) b o (word c)) ∷ Back E c x 𝓛 ν κ q b o a.0 s q' ∷ ‵ (box E c x a) ∷ ‵ (sees E c x (shared_for a)) ∷ Γ) G)
        → Seq K 𝓛 (‵ (hidden_shr (Word E ν) κ (c, tt) b o) ∷ ‵ (fhide (lent E c x κ)) ∷ ‵ (flft κ q) ∷ Γ) G
    lent_out t z k =
        move t (2 ∷ []) $ use1 𝓛 (‵ (flft κ (Share.left q)) ⊛ ‵ (flft κ (Share.right q))) (𝓛.lfts.lft_split κ q) $ split t $ move t (2 ∷ 1 ∷ []) $ reads E ν c t z b o (λ q'.
        move t (3 ∷ []) $ unhide t $ fpick t (λ a. fsplit3 t $ move t (0 ∷ 5 ∷ []) $ shr_bor-open t z (tokens_halve 𝓛 (shared_for a)) (λ s.
        move t (0 ∷ 5 ∷ []) $ join t $ move t (2 ∷ []) $ box_twice E c x t a $ move t (3 ∷ 0 ∷ 5 ∷ 2 ∷ 1 ∷ 4 ∷ []) $ k a s q')))

    pub lent_back : K → Soaks G → (i : ℕ) (s q' : Share)
        → Step K 𝓛 (‵ (flft κ q) ∷ Γ) G (‵ (flft (i ∷ []) s) ∷ ‵ (fat q' (word_ty ν) b o (word c)) ∷ Back E c x 𝓛 ν κ q b o i s q' ∷ Γ) G
    lent_back t z i s q' = step (λ next.
        move t (2 ∷ []) $ split t $ move t (0 ∷ 2 ∷ []) $ obor_close t z $ drop t $ move t (2 ∷ 1 ∷ []) $ read E ν c t z b o q' $ move t (1 ∷ 0 ∷ []) $ use2 𝓛 (‵ (flft κ q)) (𝓛.lfts.lft_join κ q) $ next)

  module _ (a : Id) where
    -- [the count's cell; whose turn it is; what opened the invariant; what shuts it]
    cell_out : K → (by_this : Item 𝓤) (n : ℕ)
        → ((b o : ℕ) → c ≡ block_ptr b o → n < 2 ^ 64 → 0 < n → Seq K 𝓛 (‵ (cell b o n) ∷ ‵ (turned E c x a n) ∷ by_this ∷ Closes E c x 𝓛 a ∷ Γ) G)
        → Seq K 𝓛 ((‵ (counter_at c n) ⊛ ‵ (turned E c x a n) ⊛ by_this ⊛ Closes E c x 𝓛 a) ∷ Γ) G
    cell_out t by_this n k =
        split3 t $ move t (1 ∷ []) $ use1 𝓛 (given (0 < n) (‵ (turned E c x a n))) (sticky.some_owner (key E c x) (counter_at c) (whole E c x) 𝓛 a n) $ learn t (λ some'.
        move t (2 ∷ []) $ split t $ move t (3 ∷ []) $ in_a_block t c (λ r. counter_at r n) (id⊢ 𝓤 (never 𝓤)) (λ b o e. fsplit t $ flt_l t (λ f. move t (0 ∷ 3 ∷ 1 ∷ 2 ∷ []) $ k b o e f some')))

    pub opens_shared : K → Soaks G → (s : Share)
        → ((n b o : ℕ) → c ≡ block_ptr b o → n < 2 ^ 64 → 0 < n → Seq K 𝓛 (‵ (cell b o n) ∷ ‵ (turned E c x a n) ∷ ‵ (flft (shared_for a) s) ∷ Closes E c x 𝓛 a ∷ Γ) G)
        → Seq K 𝓛 (‵ (box E c x a) ∷ ‵ (flft (shared_for a) s) ∷ ‵ (ftok every) ∷ Γ) G
    opens_shared t z s k =
        use3 𝓛 (later (some (λ (n : ℕ). ‵ (counter_at c n) ⊛ ‵ (turned E c x a n) ⊛ ‵ (flft (shared_for a) s) ⊛ Closes E c x 𝓛 a))) (sticky.opens_by (key E c x) (counter_at c) (whole E c x) 𝓛 a s) $ await t z $ pick t (λ n.
        cell_out t (‵ (flft (shared_for a) s)) n (k n))

    pub opens_owned : K → Soaks G
        → ((n b o : ℕ) → c ≡ block_ptr b o → n < 2 ^ 64 → 0 < n → Seq K 𝓛 (‵ (cell b o n) ∷ ‵ (turned E c x a n) ∷ ‵ (Pass a) ∷ Closes E c x 𝓛 a ∷ Γ) G)
        → Seq K 𝓛 (‵ (box E c x a) ∷ ‵ (Pass a) ∷ ‵ (ftok every) ∷ Γ) G
    opens_owned t z k =
        use3 𝓛 (later (some (λ (n : ℕ). ‵ (counter_at c n) ⊛ ‵ (turned E c x a n) ⊛ ‵ (Pass a) ⊛ Closes E c x 𝓛 a))) (sticky.opens_pass (key E c x) (counter_at c) (whole E c x) 𝓛 a) $ await t z $ pick t (λ n.
        cell_out t (‵ (Pass a)) n (k n))

    pub shut : K → Soaks G → (n b o : ℕ) → c ≡ block_ptr b o → n < 2 ^ 64
        → Step K 𝓛 (‵ (ftok every) ∷ Γ) G (‵ (cell b o n) ∷ ‵ (turned E c x a n) ∷ Closes E c x 𝓛 a ∷ Γ) G
    shut t z n b o e f = step (λ next.
        flt_i t n (2 ^ 64) f $ fjoin t $ rewrite t 0 (λ (r : Ptr). ‵ (counter_at r n)) (sym e) refl $
        use3 𝓛 (later (‵ (ftok every))) (sticky.shuts (key E c x) (counter_at c) (whole E c x) 𝓛 a n) $ await t z $ next)

    -- [the rest of the block; the thread's token]
    pub ends : K → Soaks G
        → Step K 𝓛 (‵ (whole E c x) ∷ ‵ (ftok every) ∷ Γ) G (‵ (turned E c x a 1) ∷ ‵ (Pass a) ∷ Closes E c x 𝓛 a ∷ Γ) G
    ends t z = step (λ next. let I : Fml = Inv (key E c x) (counter_at c) (whole E c x) a in
        use2 𝓛 (later (‵ (whole E c x) ⊛ ‵ I)) (sticky.last (key E c x) (counter_at c) (whole E c x) 𝓛 a) $ await t z $ split t $ move t (1 ∷ 2 ∷ []) $
        use2 𝓛 (later (‵ (ftok every))) (apply∗ 𝓤 (sem 𝓛 I) (H.⇛ (𝓛.A.tok every))) $ await t z $ move t (1 ∷ []) $ next)

module _ (E : Bx) (x : X E) (b o : ℕ) {M : Type 1} {𝓤 : Ura M} {𝓛 : Logic 𝓤} {K : Type 0} {Γ : List (Item 𝓤)} {G : Goal 𝓤 𝓛.H} where
  open 𝓛 use {H}

  -- [the value's cell; the allocator's; what the value owns; what the allocator owns; the right to free the block; the way back to it]
  pub block_out : K
      → ((v : Val) (h : E.al.row.Denot) (hv : Val) → Good (τ E) v → Fits E.al hv → Seq K 𝓛 (‵ (fat full_share (τ E) b (o + value_at E) v) ∷ ‵ (fat full_share (α E.al) b (o + heap_at E) hv)
      ∷ ‵ (own E x (v ∷ [])) ∷ ‵ (E.al.row.own_val h (hv ∷ [])) ∷ ‵ (token E.al h (block_ty E) (block_ptr b o)) ∷ ‵ (fields_rejoin (P E) (R E) (block_ptr b o)) ∷ Γ) G)
      → Seq K 𝓛 (‵ (whole E (block_ptr b o) x) ∷ Γ) G
  block_out t k =
      fsplit t $ use1 𝓛 (some (λ (v : Val). given (Good (τ E) v) (‵ (fat full_share (τ E) b (o + value_at E) v) ⊛ ‵ (own E x (v ∷ []))))) (el_out E 𝓛 x b (o + value_at E)) $ pick t (λ v. learn t (λ good.
      split t $ move t (2 ∷ []) $ fpick t (λ h. fsplit3 t $
      use1 𝓛 (some (λ (u : Val). ‵ (fat full_share (α E.al) b (o + heap_at E) u) ⊛ ‵ (E.al.row.own_val h (u ∷ [])))) (loaded 𝓛 (P E) refl full_share h b (o + heap_at E)) $ pick t (λ hv. split t $
      use1 𝓛 (given (Fits E.al hv) (‵ (fat full_share (α E.al) b (o + heap_at E) hv))) (𝓛.laws.at_wt full_share (α E.al) b (o + heap_at E) hv) $ learn t (λ fa.
      move t (4 ∷ 0 ∷ 5 ∷ 1 ∷ 2 ∷ 3 ∷ []) $ k v h hv good fa)))))

  pub block_back : K → (n : ℕ) (v hv : Val)
      → Step K 𝓛 (‵ (froom (block_ty E) b o) ∷ Γ) G (‵ (cell b o n) ∷ ‵ (fat full_share (τ E) b (o + value_at E) v) ∷ ‵ (fat full_share (α E.al) b (o + heap_at E) hv) ∷ ‵ (fields_rejoin (P E) (R E) (block_ptr b o)) ∷ Γ) G
  block_back t n v hv = step (λ next.
      use1 𝓛 (‵ (froom (ty_int w64) b (o + 0))) (𝓛.laws.at_room (ty_int w64) b (o + 0) (vint w64 n)) $ move t (1 ∷ []) $
      use1 𝓛 (‵ (froom (τ E) b (o + value_at E))) (𝓛.laws.at_room (τ E) b (o + value_at E) v) $ as_raw t (τ E) b (o + value_at E) $ move t (2 ∷ []) $
      use1 𝓛 (‵ (froom (α E.al) b (o + heap_at E))) (𝓛.laws.at_room (α E.al) b (o + heap_at E) hv) $ as_raw t (α E.al) b (o + heap_at E) $ move t (2 ∷ 0 ∷ 1 ∷ []) $ group t 3 $
      use2 𝓛 (‵ (froom (block_ty E) b o)) (apply∗ 𝓤 (sep 𝓤 (H.room (ty_int w64) b (o + 0)) (sep 𝓤 (H.room (bare (α E.al)) b (o + heap_at E)) (H.room (bare (τ E)) b (o + value_at E)))) (H.room (block_ty E) b o)) $ next)
