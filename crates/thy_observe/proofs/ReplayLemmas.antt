-- The plain machine along turns, and a table with one count more.
use Rattle.std.proofs.Common.{◌≡◌, ℕ, zero, suc, ◌+◌, ◌-◌, ◌<◌, ◌≤◌, ◌==◌, nat_le, Bool, true, false, cond, if◌then◌else◌, List, [], ◌∷◌, ◌++◌, length, get_or, take, map, fold, Option, Some, None, unwrap_or, BTreeMap, Vec, Global, count_by, refl, sym, ◌∙◌, ap, subst, arith, length-append, append-nil}
use Rattle.std.specs.BTreeMap.{is_at}
use Rattle.std.specs.Map.{lookup}
use Rattle.std.specs.Ordering.{nat_cmp}
use Rattle.std.proofs.lemmas.Bool.{eqb-true, leb-true, leb-false}
use Rattle.std.proofs.lemmas.List.{get_or_append_left, get_or_at}
use Rattle.std.proofs.lemmas.List.Concat.{flat_map-append}
use Rattle.std.proofs.lemmas.List.Sums.{fold-append}
use Rattle.thy_block.specs.declared.parameters.Parameters.{Parameters}
use Rattle.thy_block.specs.Bytes.{bytes_of}
use Rattle.thy_isa.specs.OnBlocks.{setting_for}
use Rattle.thy_isa.specs.Step.{State, Setting, state_of, step_of}
use Rattle.thy_layout.specs.declared.start.Start.{Start}
use Rattle.thy_plain.specs.Machine.{Machine, in_state, stepped_by}
use Rattle.thy_computer.specs.Origin.{by_turns}
use Rattle.thy_run.specs.Watching.{Taken}
use Rattle.thy_observe.specs.declared.changes.Change.{Change}
use Rattle.thy_observe.specs.declared.changes.Change.TheVariants.{Retired, Lost}
use Rattle.thy_observe.specs.declared.replay.Replay.{Replay}
use Rattle.thy_observe.specs.Changes.{changes_in, changes_of, dated, dated_from, dated_of}
use Rattle.thy_observe.specs.Replaying.{AddsOne, AreCounts, Executed, IsPlainAt, IsReplay, count_in, executed, executed_after, executed_by, is_by, listed, listed_after, nothing_executed, pc_in, state_after}
use Rattle.thy_observe.proofs.TallyLemmas.{count-one}

-- ---- turns

-- turns after the last step change nothing
pub by_turns-before : (g : Setting) (turns more : List ℕ) (k : ℕ) (s : State)
    → k ≤ length turns → by_turns g (turns ++ more) k s ≡ by_turns g turns k s
unfolding by_turns
by_turns-before g turns more zero s l = refl
by_turns-before g turns more (suc k) s l =
    ap (λ (h : ℕ). step_of g h (by_turns g (turns ++ more) k s)) (get_or_append_left turns more 0 k (omega (arith, l)))
    ∙ ap (step_of g (get_or turns k 0)) (by_turns-before g turns more k s (omega (arith, l)))

by_turns-next : (g : Setting) (turns : List ℕ) (k : ℕ) (s : State) → by_turns g turns (suc k) s ≡ step_of g (get_or turns k 0) (by_turns g turns k s)
unfolding by_turns
by_turns-next g turns k s = refl

-- one turn more is one step more
pub state_after-one : (g : Setting) (s : State) (turns : List ℕ) (hart : ℕ)
    → state_after g s (turns ++ hart ∷ []) ≡ step_of g hart (state_after g s turns)
state_after-one g s turns hart =
    ap (λ k. by_turns g (turns ++ hart ∷ []) k s) (let e : length (turns ++ hart ∷ []) ≡ suc (length turns) = omega (arith, length-append turns (hart ∷ [])) in e)
    ∙ by_turns-next g (turns ++ hart ∷ []) (length turns) s
    ∙ ap (λ h. step_of g h (by_turns g (turns ++ hart ∷ []) (length turns) s)) (get_or_at turns hart [] 0 (length turns) refl)
    ∙ ap (step_of g hart) (by_turns-before g turns (hart ∷ []) (length turns) s (omega arith))

-- a step of any hart but 0 is one of hart 1
step_of-second : (g : Setting) (hart : ℕ) (s : State) → 0 < hart → step_of g hart s ≡ step_of g 1 s
unfolding step_of
step_of-second g zero s off = absurd (omega (arith, off))
step_of-second g (suc hart) s off = refl

-- ---- counts

-- the keys compare equal if they are
same-key : (a b : ℕ) (c : Bool) → (a == b) ≡ c → is_at (nat_cmp a) b ≡ c
same-key a b true e = subst (λ (k : ℕ). is_at (nat_cmp a) k ≡ true) (eqb-true a b e) (same-itself a)
  where
    same-itself : (k : ℕ) → is_at (nat_cmp k) k ≡ true
    same-itself k = grind (arith)
same-key a b false e = grind (arith, e)

flipped : (a b : ℕ) (c : Bool) → (a == b) ≡ c → (b == a) ≡ c
flipped a b c e = grind (arith, e)

pub counts-one : (old new : BTreeMap ℕ ℕ) (pc n : ℕ) (pcs : List ℕ) → n ≡ count_in old.entries pc
    → ((q : ℕ) → lookup (is_at (nat_cmp q)) new.entries ≡ cond (is_at (nat_cmp pc) q) (Some (n + 1)) (lookup (is_at (nat_cmp q)) old.entries))
    → AreCounts old.entries pcs → AreCounts new.entries (pcs ++ pc ∷ [])
counts-one old new pc n pcs is sets h = record {
  sound = λ q. subst (λ (o : Option ℕ). 0 < unwrap_or o 1) (sym (sets q)) (nonzero q (is_at (nat_cmp pc) q));
  counts = λ q.
      ap (λ (o : Option ℕ). unwrap_or o 0) (sets q)
      ∙ counted q (pc == q) refl
      ∙ sym (count-one (λ p. p == q) pcs pc);
}
  where
    nonzero : (q : ℕ) (b : Bool) → 0 < unwrap_or (cond b (Some (n + 1)) (lookup (is_at (nat_cmp q)) old.entries)) 1
    nonzero q true = omega arith
    nonzero q false = h.sound q

    counted : (q : ℕ) (b : Bool) → (pc == q) ≡ b
        → unwrap_or (cond (is_at (nat_cmp pc) q) (Some (n + 1)) (lookup (is_at (nat_cmp q)) old.entries)) 0
        ≡ count_by (λ p. p == q) pcs + cond (pc == q) 1 0
    counted q true e =
        ap (λ (c : Bool). unwrap_or (cond c (Some (n + 1)) (lookup (is_at (nat_cmp q)) old.entries)) 0) (same-key pc q true e)
        ∙ ap (λ (k : ℕ). k + 1) (is ∙ h.counts pc ∙ ap (λ (k : ℕ). count_by (λ p. p == k) pcs) (eqb-true pc q e))
        ∙ ap (λ (c : Bool). count_by (λ p. p == q) pcs + cond c 1 0) (sym e)
    counted q false e =
        ap (λ (c : Bool). unwrap_or (cond c (Some (n + 1)) (lookup (is_at (nat_cmp q)) old.entries)) 0) (same-key pc q false e)
        ∙ h.counts q
        ∙ (let z : count_by (λ p. p == q) pcs ≡ count_by (λ p. p == q) pcs + 0 = omega arith in z)
        ∙ ap (λ (c : Bool). count_by (λ p. p == q) pcs + cond c 1 0) (sym e)

-- an empty table counts nothing
pub counts-none : (table : List (ℕ × ℕ)) → table ≡ [] → AreCounts table []
counts-none table none = record {
  sound = λ q. subst (λ (t : List (ℕ × ℕ)). 0 < unwrap_or (lookup (is_at (nat_cmp q)) t) 1) (sym none) (omega arith);
  counts = λ q. ap (λ (t : List (ℕ × ℕ)). count_in t q) none;
}

-- ---- a replay

-- the plain machine at the start
pub plain-none : (p : Parameters) (start : Start) → IsPlainAt p start [] (in_state p (state_of start.state) (bytes_of start.input))
unfolding by_turns
plain-none p start = refl

-- a step of any hart but 0 is one of hart 1
pub stepped_by-second : (hart : ℕ) (m : Machine) → 0 < hart → stepped_by hart m ≡ stepped_by 1 m
stepped_by-second hart m off = ap (λ (s : State). record m { state = s }) (step_of-second m.setting hart m.state off)

-- the plain machine one turn further
pub plain-one : (p : Parameters) (start : Start) (harts : List ℕ) (hart : ℕ) (m : Machine)
    → IsPlainAt p start harts m → IsPlainAt p start (harts ++ hart ∷ []) (stepped_by hart m)
plain-one p start harts hart m h =
    ap (stepped_by hart) h
    ∙ ap (λ s. in_state p s (bytes_of start.input)) (sym (state_after-one (setting_for p (bytes_of start.input)) (state_of start.state) harts hart))

-- a replay one instruction further
pub IsReplay-one : (p : Parameters) (start : Start) (e : Executed) (hart : ℕ) (r next : Replay)
    → next.harts.items ≡ r.harts.items ++ hart ∷ [] → next.plain ≡ stepped_by hart r.plain → AddsOne r.counts next.counts (pc_in hart r.plain.state)
    → next.up ≡ r.up → IsReplay p start e r → IsReplay p start (executed_by p start e (Retired hart)) next
IsReplay-one p start e hart r next harts plain adds up h = record {
  harts = harts ∙ ap (λ l. l ++ hart ∷ []) h.harts;
  plain = plain ∙ plain-one p start e.harts hart r.plain h.plain;
  counts = subst (λ (pc : ℕ). AreCounts next.counts.entries (e.pcs ++ pc ∷ [])) (ap (λ (m : Machine). pc_in hart m.state) h.plain) (adds e.pcs h.counts);
  up = up ∙ h.up;
}

-- a replay whose machine lost its state
pub IsReplay-lost : (p : Parameters) (start : Start) (e : Executed) (r next : Replay)
    → next.harts ≡ r.harts → next.plain ≡ r.plain → next.counts ≡ r.counts → next.up ≡ false
    → IsReplay p start e r → IsReplay p start (executed_by p start e Lost) next
IsReplay-lost p start e r next harts plain counts up h = record {
  harts = ap (λ (v : Vec ℕ Global). v.items) harts ∙ h.harts;
  plain = plain ∙ h.plain;
  counts = subst (λ (b : BTreeMap ℕ ℕ). AreCounts b.entries e.pcs) (sym counts) h.counts;
  up = up;
}

-- ---- what is listed

-- changes in the cycle of one number are executed all, if it is one of those asked for
same-all : (g : Setting) (start : State) (most : Option ℕ) (cycle : ℕ) (changes : List Change) (e : Executed)
    → ((change : Change) → is_by most (dated cycle change) ≡ true)
    → fold (listed_after g start most) e (map (dated cycle) changes) ≡ fold (executed_after g start) e changes
same-all g start most cycle [] e by = refl
same-all g start most cycle (change ∷ changes) e by =
    ap (λ (x : Executed). fold (listed_after g start most) x (map (dated cycle) changes))
    (ap (λ (b : Bool). if b then executed_after g start e change else e) (by change))
    ∙ same-all g start most cycle changes (executed_after g start e change) by

-- none of them, if it is not
same-none : (g : Setting) (start : State) (most : Option ℕ) (cycle : ℕ) (changes : List Change) (e : Executed)
    → ((change : Change) → is_by most (dated cycle change) ≡ false)
    → fold (listed_after g start most) e (map (dated cycle) changes) ≡ e
same-none g start most cycle [] e by = refl
same-none g start most cycle (change ∷ changes) e by =
    ap (λ (x : Executed). fold (listed_after g start most) x (map (dated cycle) changes))
    (ap (λ (b : Bool). if b then executed_after g start e change else e) (by change))
    ∙ same-none g start most cycle changes e by

changes-first : (t : Taken) (seen : List Taken) → changes_of (t ∷ seen) ≡ changes_in t ++ changes_of seen
changes-first t seen = flat_map-append changes_in (t ∷ []) seen ∙ ap (λ (l : List Change). l ++ changes_of seen) (append-nil (changes_in t))

take-none : (n : ℕ) → ◌≡◌ {A = List Taken} (take n []) []
take-none zero = refl
take-none (suc n) = refl

-- what is listed of all cycles is executed as their changes are
listed-all_from : (g : Setting) (start : State) (cycle : ℕ) (seen : List Taken) (e : Executed)
    → fold (listed_after g start None) e (dated_from cycle seen) ≡ fold (executed_after g start) e (changes_of seen)
listed-all_from g start cycle [] e = refl
listed-all_from g start cycle (t ∷ seen) e =
    fold-append (listed_after g start None) e (map (dated cycle) (changes_in t)) (dated_from (cycle + 1) seen)
    ∙ ap (λ (x : Executed). fold (listed_after g start None) x (dated_from (cycle + 1) seen)) (same-all g start None cycle (changes_in t) e (λ change. refl))
    ∙ listed-all_from g start (cycle + 1) seen (fold (executed_after g start) e (changes_in t))
    ∙ sym (fold-append (executed_after g start) e (changes_in t) (changes_of seen))
    ∙ ap (fold (executed_after g start) e) (sym (changes-first t seen))

pub listed-all : (g : Setting) (start : State) (seen : List Taken) → listed g start None (dated_of seen) ≡ executed g start (changes_of seen)
listed-all g start seen = listed-all_from g start 1 seen nothing_executed

-- what is listed up to a cycle is executed as the changes of these cycles: first for one cycle, which is among them or not
listed-by_one : (g : Setting) (start : State) (last before : ℕ) (t : Taken) (seen : List Taken) (e : Executed) (b : Bool) → nat_le (before + 1) last ≡ b
    → ((x : Executed) → fold (listed_after g start (Some last)) x (dated_from (before + 1 + 1) seen)
    ≡ fold (executed_after g start) x (changes_of (take (last - (before + 1)) seen)))
    → fold (listed_after g start (Some last)) (fold (listed_after g start (Some last)) e (map (dated (before + 1)) (changes_in t))) (dated_from (before + 1 + 1) seen)
    ≡ fold (executed_after g start) e (changes_of (take (last - before) (t ∷ seen)))
listed-by_one g start last before t seen e true is rest =
    let within : before + 1 ≤ last = leb-true (before + 1) last is in
    let more : last - before ≡ suc (last - (before + 1)) = omega (arith, within) in
    ap (λ (x : Executed). fold (listed_after g start (Some last)) x (dated_from (before + 1 + 1) seen))
    (same-all g start (Some last) (before + 1) (changes_in t) e (λ change. is))
    ∙ rest (fold (executed_after g start) e (changes_in t))
    ∙ sym (fold-append (executed_after g start) e (changes_in t) (changes_of (take (last - (before + 1)) seen)))
    ∙ ap (fold (executed_after g start) e) (sym (changes-first t (take (last - (before + 1)) seen)))
    ∙ ap (λ (n : ℕ). fold (executed_after g start) e (changes_of (take n (t ∷ seen)))) (sym more)
listed-by_one g start last before t seen e false is rest =
    let beyond : last < before + 1 = leb-false (before + 1) last is in
    let none : last - before ≡ 0 = omega (arith, beyond) in
    let less : last - (before + 1) ≡ 0 = omega (arith, beyond) in
    ap (λ (x : Executed). fold (listed_after g start (Some last)) x (dated_from (before + 1 + 1) seen))
    (same-none g start (Some last) (before + 1) (changes_in t) e (λ change. is))
    ∙ rest e
    ∙ ap (λ (n : ℕ). fold (executed_after g start) e (changes_of (take n seen))) less
    ∙ ap (λ (n : ℕ). fold (executed_after g start) e (changes_of (take n (t ∷ seen)))) (sym none)

listed-by_from : (g : Setting) (start : State) (last before : ℕ) (seen : List Taken) (e : Executed)
    → fold (listed_after g start (Some last)) e (dated_from (before + 1) seen) ≡ fold (executed_after g start) e (changes_of (take (last - before) seen))
listed-by_from g start last before [] e = sym (ap (λ (l : List Taken). fold (executed_after g start) e (changes_of l)) (take-none (last - before)))
listed-by_from g start last before (t ∷ seen) e =
    fold-append (listed_after g start (Some last)) e (map (dated (before + 1)) (changes_in t)) (dated_from (before + 1 + 1) seen)
    ∙ listed-by_one g start last before t seen e (nat_le (before + 1) last) refl (λ x. listed-by_from g start last (before + 1) seen x)

pub listed-by : (g : Setting) (start : State) (last : ℕ) (seen : List Taken)
    → listed g start (Some last) (dated_of seen) ≡ executed g start (changes_of (take last seen))
listed-by g start last seen =
    listed-by_from g start last 0 seen nothing_executed
    ∙ ap (λ (n : ℕ). executed g start (changes_of (take n seen))) (let e : last - 0 ≡ last = omega arith in e)
