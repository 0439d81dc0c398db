-- Images that were tried, one after another.
use Rattle.std.proofs.Common.{◌≡◌, ℕ, ◌+◌, ◌==◌, true, false, List, [], ◌∷◌, ◌++◌, refl, sym, ◌∙◌, ap, subst, inl, inr, arith}
use Rattle.std.specs.Prelude.{MatchBool}
use Rattle.std.specs.List.{AllByRecursion}
use Rattle.std.proofs.lemmas.Bool.{ne_eqb, eqb-false, eq-eqb, or_left, or_right, or_from, or_parts, cases_lt}
use Rattle.std.proofs.lemmas.List.{map-append}
use Rattle.std.proofs.lemmas.List.Folds.{list_any-append}
use Rattle.thy_block.specs.declared.block.Block.{Block}
use Rattle.thy_block.specs.declared.mix.Mix.{Mix}
use Rattle.thy_nvm.specs.Calls.{is_listed}
use Rattle.thy_run.specs.declared.plan.Plan.{Plan}
use Rattle.thy_sweep.specs.declared.lead.Lead.{Lead}
use Rattle.thy_sweep.specs.Choices.{places_of}
use Rattle.thy_sweep.specs.Images.{crash_images}
use Rattle.thy_sweep.specs.Lying.{Lying}
use Rattle.thy_sweep.specs.declared.trial.part.Part.{Part}
use Rattle.thy_sweep.specs.Rooms.{counted_at, number_by}
use Rattle.thy_computer.specs.Kind.{KindOf}
use Rattle.sweep.specs.declared.asked.Asked.{Asked}
use Rattle.sweep.specs.declared.row.Row.{Row}
use Rattle.sweep.specs.Kept.{extended}
use Rattle.sweep.specs.Rows.{Try, WasTried, noted_if, noted_all, tried_all, HasTried, numbers_of, AreApart, IsOfPick, IsOfPicks, NotesPick, TriesPicks, NotesNumber, TriesImages, TriesAsked, pick_of, picks_of, wants}

-- ---- lists

all-append : {X : Type 0} (P : X → Type 0) (xs ys : List X) → AllByRecursion P xs → AllByRecursion P ys → AllByRecursion P (xs ++ ys)
all-append P [] ys here there = there
all-append P (x ∷ xs) ys here there = (here.0, all-append P xs ys here.1 there)

all-weaker : {X : Type 0} (P Q : X → Type 0) (xs : List X) → ((x : X) → P x → Q x) → AllByRecursion P xs → AllByRecursion Q xs
all-weaker P Q [] weaker all = tt
all-weaker P Q (x ∷ xs) weaker all = (weaker x all.0, all-weaker P Q xs weaker all.1)

listed-left : (x : ℕ) (a b : List ℕ) → is_listed x a ≡ true → is_listed x (a ++ b) ≡ true
listed-left x a b h = list_any-append (λ n. n == x) a b ∙ or_left (is_listed x a) (is_listed x b) h

-- a number that is another is so either way round
other-way : (j k : ℕ) → (j == k) ≡ false → (k == j) ≡ false
other-way j k e = ne_eqb k j (λ same. eqb-false j k e (sym same))

-- one number more, which was not listed
pub apart-one : (k : ℕ) (ks : List ℕ) → AreApart ks → is_listed k ks ≡ false → AreApart (ks ++ k ∷ [])
apart-one k [] apart none = (refl, tt)
apart-one k (j ∷ ks) apart none =
    let parts = or_parts (j == k) (is_listed k ks) none in (
      list_any-append (λ n. n == j) ks (k ∷ []) ∙ or_from (is_listed j ks) (is_listed j (k ∷ [])) apart.0 (or_from (k == j) false (other-way j k parts.0) refl),
      apart-one k ks apart.1 parts.1,
    )

-- the number that was added is listed
pub listed-last : (k : ℕ) (ks : List ℕ) → is_listed k (ks ++ k ∷ []) ≡ true
listed-last k ks =
    list_any-append (λ n. n == k) ks (k ∷ [])
    ∙ or_right (is_listed k ks) (is_listed k (k ∷ [])) (or_left (k == k) false (eq-eqb k k refl))

-- ---- rows

noted-append : (ts us : List Try) (leads : List Lead) → noted_all (ts ++ us) leads ≡ noted_all us (noted_all ts leads)
noted-append [] us leads = refl
noted-append (t ∷ ts) us leads = noted-append ts us (noted_if t.booted leads)

tried-append : (ts us : List Try) (tried : ℕ) → tried_all (ts ++ us) tried ≡ tried_all us (tried_all ts tried)
tried-append [] us tried = refl
tried-append (t ∷ ts) us tried = tried-append ts us _

module _ {M : Type 0} (K : KindOf M) (part : Part) (plan : Plan) (d : Lying) (mix : Mix) where
  -- none was
  pub HasTried-none : (row : Row) → HasTried K part plan d mix [] row row
  HasTried-none row = record { each = tt; leads = refl; tried = refl; first = refl; last = refl; queued = refl; images = refl }

  -- some were, and then others
  pub HasTried-then : (ts us : List Try) (old mid new : Row) → HasTried K part plan d mix ts old mid → HasTried K part plan d mix us mid new
      → HasTried K part plan d mix (ts ++ us) old new
  HasTried-then ts us old mid new one two = record {
    each = all-append (WasTried K part plan d mix) ts us one.each two.each;
    leads = two.leads ∙ ap (noted_all us) one.leads ∙ sym (noted-append ts us old.leads.items);
    tried = two.tried ∙ ap (tried_all us) one.tried ∙ sym (tried-append ts us old.tried);
    first = two.first ∙ one.first;
    last = two.last ∙ one.last;
    queued = two.queued ∙ one.queued;
    images = two.images ∙ one.images;
  }

  -- ---- by number

  pub TriesImages-none : (row : Row) → TriesImages K part plan d mix [] row row
  TriesImages-none row = record { tries = []; has = HasTried-none row; are = refl }

  -- one image more
  pub TriesImages-on : (images : List (List Block)) (g : List Block) (number : ℕ) (old mid new : Row) → TriesImages K part plan d mix images old mid
      → (one : NotesNumber K part plan d mix number mid new) → one.one.image ≡ g → TriesImages K part plan d mix (images ++ g ∷ []) old new
  TriesImages-on images g number old mid new h one is = record {
    tries = h.tries ++ one.one ∷ [];
    has = HasTried-then h.tries (one.one ∷ []) old mid new h.has one.has;
    are = map-append (λ (t : Try). t.image) h.tries (one.one ∷ []) ∙ ap (λ l. l ++ one.one.image ∷ []) h.are ∙ ap (λ b. images ++ b ∷ []) is;
  }

module _ {M : Type 0} (K : KindOf M) (plan : Plan) (d : Lying) (mix : Mix) where
  -- ---- by picks

  -- the images of the first picks were tried, and their numbers are listed
  pub record IsTrying (a : Asked) (count : ℕ) (counted : List ℕ) (old new : Row) : Type 0 where
    pub so_far : TriesPicks K plan d mix a count old new
    pub numbers : counted ≡ numbers_of d.memory so_far.tries

  pub IsTrying-none : (a : Asked) (row : Row) → IsTrying a 0 [] row row
  IsTrying-none a row = record {
    so_far = record { tries = []; has = HasTried-none K a.compared plan d mix row; every = λ i less. absurd (omega (arith, less)); only = tt; apart = λ whole. tt };
    numbers = refl;
  }

  -- one pick more
  pub IsTrying-on : (a : Asked) (i : ℕ) (listed listing : List ℕ) (old mid new : Row) → IsTrying a i listed old mid
      → NotesPick K a.compared plan d mix (pick_of a i) listed listing mid new → IsTrying a (i + 1) listing old new
  IsTrying-on a i listed listing old mid new h one =
      let s = h.so_far in
      let all : numbers_of d.memory (s.tries ++ one.tries) ≡ numbers_of d.memory s.tries ++ numbers_of d.memory one.tries = map-append (λ (t : Try). counted_at d.memory t.image) s.tries one.tries in
      let lists : listing ≡ numbers_of d.memory (s.tries ++ one.tries)
      = one.lists ∙ ap (λ l. l ++ numbers_of d.memory one.tries) h.numbers ∙ sym all in
      record {
        so_far = record {
          tries = s.tries ++ one.tries;
          has = HasTried-then K a.compared plan d mix s.tries one.tries old mid new s.has one.has;
          every = λ j less. elim (cases_lt j i) as (λ _. is_listed (number_by (pick_of a j) d.memory) (numbers_of d.memory (s.tries ++ one.tries)) ≡ true) [
            | inl before ↦
                ap (is_listed (number_by (pick_of a j) d.memory)) all
                ∙ listed-left (number_by (pick_of a j) d.memory) (numbers_of d.memory s.tries) (numbers_of d.memory one.tries) (s.every j before)
            | inr after ↦
                (let same : j ≡ i = omega (arith, less, after) in
                ap (λ k. is_listed (number_by (pick_of a k) d.memory) (numbers_of d.memory (s.tries ++ one.tries))) same
                ∙ ap (is_listed (number_by (pick_of a i) d.memory)) (sym lists) ∙ one.known)
          ];
          only = all-append (IsOfPicks a d.memory (i + 1)) s.tries one.tries
              (all-weaker (IsOfPicks a d.memory i) (IsOfPicks a d.memory (i + 1)) s.tries (λ t p. (p.0, omega (arith, p.1), p.2)) s.only)
              (all-weaker (IsOfPick d.memory (pick_of a i)) (IsOfPicks a d.memory (i + 1)) one.tries (λ t p. (i, omega arith, p)) one.are);
          apart = λ whole. subst AreApart lists (one.apart whole (subst AreApart (sym h.numbers) (s.apart whole)));
        };
        numbers = lists;
      }

  -- ---- what is asked for

  pub asked-all : (a : Asked) (old new : Row) → wants a.all (places_of d.memory) ≡ true → TriesImages K a.compared plan d mix (crash_images d.memory) old new
      → TriesAsked K plan d mix a old new
  asked-all a old new e h =
      subst (λ t. MatchBool t (TriesImages K a.compared plan d mix (crash_images d.memory) old new) (TriesPicks K plan d mix a (picks_of a) old new)) (sym e) h

  pub asked-picks : (a : Asked) (old new : Row) → wants a.all (places_of d.memory) ≡ false → TriesPicks K plan d mix a (picks_of a) old new
      → TriesAsked K plan d mix a old new
  asked-picks a old new e h =
      subst (λ t. MatchBool t (TriesImages K a.compared plan d mix (crash_images d.memory) old new) (TriesPicks K plan d mix a (picks_of a) old new)) (sym e) h

  -- ---- a row that is extended, and the images of one

  has-extended : (part : Part) (tries : List Try) (old row : Row) (cycle count : ℕ) → HasTried K part plan d mix tries old row
      → HasTried K part plan d mix tries (record old { last = cycle }) (extended cycle count row)
  has-extended part tries old row cycle count h = record {
    each = h.each;
    leads = h.leads;
    tried = h.tried;
    first = h.first;
    last = refl;
    queued = h.queued;
    images = h.images;
  }

  -- with one cycle more the images stay those that were tried
  pub asked-extended : (a : Asked) (old row : Row) (cycle count : ℕ) → TriesAsked K plan d mix a old row
      → TriesAsked K plan d mix a (record old { last = cycle }) (extended cycle count row)
  asked-extended a old row cycle count h =
      let before : Row = record old { last = cycle } in
      let new : Row = extended cycle count row in
      (elim (wants a.all (places_of d.memory))
      as (λ t. MatchBool t (TriesImages K a.compared plan d mix (crash_images d.memory) old row) (TriesPicks K plan d mix a (picks_of a) old row)
      → MatchBool t (TriesImages K a.compared plan d mix (crash_images d.memory) before new) (TriesPicks K plan d mix a (picks_of a) before new)) [
        | true ↦ λ x. record { tries = x.tries; has = has-extended a.compared x.tries old row cycle count x.has; are = x.are }
        | false ↦ λ x. record {
          tries = x.tries;
          has = has-extended a.compared x.tries old row cycle count x.has;
          every = x.every;
          only = x.only;
          apart = x.apart;
        }
      ]) h

  -- they were tried
  pub tried-of : (a : Asked) (old new : Row) → TriesAsked K plan d mix a old new → (tries : List Try) × HasTried K a.compared plan d mix tries old new
  tried-of a old new h =
      (elim (wants a.all (places_of d.memory))
      as (λ t. MatchBool t (TriesImages K a.compared plan d mix (crash_images d.memory) old new) (TriesPicks K plan d mix a (picks_of a) old new)
      → (tries : List Try) × HasTried K a.compared plan d mix tries old new) [
        | true ↦ λ x. (x.tries, x.has)
        | false ↦ λ x. (x.tries, x.has)
      ]) h
