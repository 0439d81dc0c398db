-- What one cycle more makes of the program's state.
use Rattle.std.proofs.Common.{◌≡◌, ℕ, ◌+◌, List, [], ◌∷◌, ◌++◌, length, map, Option, sym, ◌∙◌, ap, subst, append_assoc, append-nil, arith}
use Rattle.std.specs.Prelude.{IfSome, Vec}
use Rattle.std.specs.declared.alloc.Global.{Global}
use Rattle.std.proofs.lemmas.List.{flat_map_more, map-append}
use Rattle.thy_run.specs.Watching.{Taken}
use Rattle.thy_observe.specs.declared.changes.Change.{Change}
use Rattle.thy_observe.specs.declared.changes.Dated.{Dated}
use Rattle.thy_observe.specs.Changes.{Adds, as_list, change_of, changes_in, changes_of, dated, dated_from, dated_of, lost_in}

-- one cycle more adds its changes
pub changes-one : (seen : List Taken) (t : Taken) → changes_of seen ++ changes_in t ≡ changes_of (seen ++ t ∷ [])
changes-one seen t = flat_map_more changes_in [] seen t

-- with its number
pub dated-one : (cycle : ℕ) (seen : List Taken) (t : Taken)
    → dated_from cycle (seen ++ t ∷ []) ≡ dated_from cycle seen ++ map (dated (cycle + length seen)) (changes_in t)
dated-one cycle [] t =
    append-nil (map (dated cycle) (changes_in t)) ∙ ap (λ (k : ℕ). map (dated k) (changes_in t)) (let e : cycle ≡ cycle + 0 = omega arith in e)
dated-one cycle (s ∷ seen) t =
    ap (λ (l : List Dated). map (dated cycle) (changes_in s) ++ l) (dated-one (cycle + 1) seen t)
    ∙ ap (λ (k : ℕ). map (dated cycle) (changes_in s) ++ (dated_from (cycle + 1) seen ++ map (dated k) (changes_in t)))
    (let e : cycle + 1 + length seen ≡ cycle + length (s ∷ seen) = omega arith in e)
    ∙ sym (append_assoc (map (dated cycle) (changes_in s)) (dated_from (cycle + 1) seen) _)

-- what is listed has one cycle more
pub changed-one : (old middle new : Option (Vec Dated Global)) (seen : List Taken) (t : Taken) (cycle : ℕ)
    → Adds old middle (map (dated cycle) (as_list (change_of t.stepped.did))) → Adds middle new (map (dated cycle) (lost_in t.fell))
    → cycle ≡ length seen + 1 → IfSome old (λ (v : Vec Dated Global). v.items ≡ dated_of seen)
    → IfSome new (λ (v : Vec Dated Global). v.items ≡ dated_of (seen ++ t ∷ []))
changed-one old middle new seen t cycle first last now h =
    let did : List Dated = map (dated cycle) (as_list (change_of t.stepped.did)) in
    let fell : List Dated = map (dated cycle) (lost_in t.fell) in
    subst (λ (l : List Dated). IfSome new (λ (v : Vec Dated Global). v.items ≡ l))
    (append_assoc (dated_of seen) did fell
    ∙ ap (λ (l : List Dated). dated_of seen ++ l) (sym (map-append (dated cycle) (as_list (change_of t.stepped.did)) (lost_in t.fell)))
    ∙ ap (λ (k : ℕ). dated_of seen ++ map (dated k) (changes_in t)) (let e : cycle ≡ 1 + length seen = omega (arith, now) in e)
    ∙ sym (dated-one 1 seen t))
    (last (dated_of seen ++ did) (first (dated_of seen) h))
