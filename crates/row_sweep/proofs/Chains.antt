-- New chains, one row more; and the hash of a row's words.
use Rattle.std.proofs.Common.{◌≡◌, ◌≢◌, ℕ, zero, suc, ◌+◌, ◌<◌, ◌≤◌, Bool, false, List, [], ◌∷◌, ◌++◌, length, get_or, set, refl, sym, ap, ◌∙◌, subst, ⊎_elim, inl, inr, arith, true≢false, get_or-set_same, get_or-set_other}
use Rattle.std.specs.Prelude.{◌%◌}
use Rattle.std.proofs.lemmas.Bool.{cases_lt}
use Rattle.std.proofs.lemmas.List.{length_push}
use Rattle.term_model.specs.declared.Head.{Head}
use Rattle.term_model.specs.declared.Head.TheVariants.{App, Int, Nil, Cons}
use Rattle.hash_buckets.specs.Hash.{mixed, mixed_all, hash_of, bucket_of}
use Rattle.hash_buckets.specs.Spelled.{spelled}
use Rattle.store_model.specs.declared.view.Content.{Content}
use Rattle.store_model.specs.declared.view.Place.{Place}
use Rattle.store_model.specs.declared.view.Place.TheVariants.{RowWord}
use Rattle.store_model.specs.Words.{put}
use Rattle.store_model.specs.Calls.{IsOver}
use Rattle.store_model.specs.Machine.{Each, In}
use Rattle.store_model.specs.Marks.{IsMarked}
use Rattle.store_model.specs.MarkedChains.{HasContent, StandsIn}
use Rattle.store_model.proofs.Basics.{put_case, put_same, each_map}
use Rattle.row_sweep.specs.Chained.{numbers_of, IsHashed, LeadsTo, Belongs, ChainsTo}

-- rows below the one that is written lead on as before
pub leads_same : (f g : ℕ → ℕ) (at : ℕ) (rs : List ℕ) → Each (λ r. f r ≡ g r) rs → LeadsTo f at rs → LeadsTo g at rs
leads_same f g at [] e h = h
leads_same f g at (r ∷ rs) e h = (h.0, subst (λ (n : ℕ). LeadsTo g n rs) e.0 (leads_same f g (f r) rs e.1 h.1))

pub chains_none : (w : Place → ℕ) (marks : List Bool) (u : ℕ) (heads nexts : List ℕ) → ((b : ℕ) → b < u → get_or heads b 0 ≡ 0) → ChainsTo w marks u 0 heads nexts
chains_none w marks u heads nexts zeros = record { rows = λ _. []; leads = zeros; belong = λ b l. tt; all = λ r l. absurd (omega arith) }

-- a row that isn't marked
pub chains_same : (w : Place → ℕ) (marks : List Bool) (u n : ℕ) (heads nexts : List ℕ) → get_or marks n false ≡ false → ChainsTo w marks u n heads nexts → ChainsTo w marks u (n + 1) heads nexts
chains_same w marks u n heads nexts not h = record {
  rows = h.rows;
  leads = h.leads;
  belong = λ b l. each_map (Belongs w marks u n b) (Belongs w marks u (n + 1) b) (h.rows b) (λ r k. record { below = (let a = k.below in omega arith); marked = k.marked; stands = k.stands }) (h.belong b l);
  all = λ r l m. ⊎_elim (λ less. h.all r less m) (λ past. let e : r ≡ n = omega arith in absurd (true≢false (sym m ∙ (ap (λ (q : ℕ). get_or marks q false) e ∙ not)))) (cases_lt r n);
}

-- and one that is, which is put before the chain of its bucket
module _ (w : Place → ℕ) (marks : List Bool) (u n : ℕ) (heads nexts : List ℕ) (marked : IsMarked marks n) (b : ℕ) (below : b < u) (stands : StandsIn w u b n) (h : ChainsTo w marks u n heads nexts) (room : n < length nexts) (used : u ≤ length heads) where
  new_nexts : List ℕ
  new_nexts = set nexts n (get_or heads b 0)

  new_heads : List ℕ
  new_heads = set heads b (n + 1)

  new_rows : ℕ → List ℕ
  new_rows = put h.rows b (n ∷ h.rows b)

  more : (c r : ℕ) → Belongs w marks u n c r → Belongs w marks u (n + 1) c r
  more c r k = record { below = (let a = k.below in omega arith); marked = k.marked; stands = k.stands }

  old_leads : (c : ℕ) → c < u → LeadsTo (λ r. get_or (set nexts n (get_or heads b 0)) r 0) (get_or heads c 0) (h.rows c)
  old_leads c l = leads_same (λ r. get_or nexts r 0) (λ r. get_or (set nexts n (get_or heads b 0)) r 0) (get_or heads c 0) (h.rows c)
      (each_map (Belongs w marks u n c) (λ r. get_or nexts r 0 ≡ get_or (set nexts n (get_or heads b 0)) r 0) (h.rows c)
      (λ r k. sym (get_or-set_other nexts n r (get_or heads b 0) 0 (λ e. let a = k.below in omega arith))) (h.belong c l)) (h.leads c l)

  pub chains_more : ChainsTo w marks u (n + 1) (set heads b (n + 1)) (set nexts n (get_or heads b 0))
  chains_more = record {
    rows = put h.rows b (n ∷ h.rows b);
    leads = λ c l. put_case (λ (rs : List ℕ). LeadsTo (λ r. get_or (set nexts n (get_or heads b 0)) r 0) (get_or (set heads b (n + 1)) c 0) rs) h.rows b (n ∷ h.rows b) c
        (λ e. subst (λ (q : ℕ). LeadsTo (λ r. get_or (set nexts n (get_or heads b 0)) r 0) (get_or (set heads b (n + 1)) q 0) (n ∷ h.rows b)) (sym e) (
          (let a = get_or-set_same heads b (n + 1) 0 (omega arith) in omega arith),
          subst (λ (m : ℕ). LeadsTo (λ r. get_or (set nexts n (get_or heads b 0)) r 0) m (h.rows b)) (sym (get_or-set_same nexts n (get_or heads b 0) 0 room)) (old_leads b below),
        ))
        (λ ne. subst (λ (m : ℕ). LeadsTo (λ r. get_or (set nexts n (get_or heads b 0)) r 0) m (h.rows c)) (sym (get_or-set_other heads b c (n + 1) 0 ne)) (old_leads c l));
    belong = λ c l. put_case (Each (Belongs w marks u (n + 1) c)) h.rows b (n ∷ h.rows b) c
        (λ e. subst (λ (q : ℕ). Each (Belongs w marks u (n + 1) q) (n ∷ h.rows b)) (sym e)
        (record { below = omega arith; marked = marked; stands = stands }, each_map (Belongs w marks u n b) (Belongs w marks u (n + 1) b) (h.rows b) (more b) (h.belong b below)))
        (λ ne. each_map (Belongs w marks u n c) (Belongs w marks u (n + 1) c) (h.rows c) (more c) (h.belong c l));
    all = λ r l m. ⊎_elim
        (λ less. let t = h.all r less m in (t.0, t.1, put_case (λ (rs : List ℕ). In r rs) h.rows b (n ∷ h.rows b) t.0 (λ e. inr (subst (λ (q : ℕ). In r (h.rows q)) e t.2)) (λ ne. t.2)))
        (λ past. let e : r ≡ n = omega arith in (b, below, subst (λ (rs : List ℕ). In r rs) (sym (put_same h.rows b (n ∷ h.rows b))) (inl e))) (cases_lt r n);
  }

-- the hash of one word more
pub mixed_more : (h x : ℕ) (xs : List ℕ) → mixed_all h (xs ++ x ∷ []) ≡ mixed (mixed_all h xs) x
mixed_more h x [] = refl
mixed_more h x (y ∷ xs) = mixed_more (mixed h y) x xs

pub numbers_more : (w : Place → ℕ) (r j h : ℕ) → mixed (mixed_all h (numbers_of w r j)) (w (RowWord r (j + 2))) ≡ mixed_all h (numbers_of w r (j + 1))
numbers_more w r j h =
    let next : suc j ≡ j + 1 = omega arith in
    let at : j + 2 ≡ suc (suc j) = omega arith in
    ap (λ (q : ℕ). mixed (mixed_all h (numbers_of w r j)) (w (RowWord r q))) at ∙ subst (λ (k : ℕ). mixed (mixed_all h (numbers_of w r j)) (w (RowWord r (suc (suc j)))) ≡ mixed_all h (numbers_of w r k)) next (sym (mixed_more h (w (RowWord r (suc (suc j)))) (numbers_of w r j)))

-- the numbers of a list by its places
get_more : (xs : List ℕ) (x : ℕ) (j : ℕ) → j < length xs → get_or (xs ++ x ∷ []) j 0 ≡ get_or xs j 0
get_more [] x j l = absurd (omega arith)
get_more (y ∷ xs) x zero l = refl
get_more (y ∷ xs) x (suc j) l = get_more xs x j (omega arith)

get_end : (xs : List ℕ) (x : ℕ) → get_or (xs ++ x ∷ []) (length xs) 0 ≡ x
get_end [] x = refl
get_end (y ∷ xs) x = get_end xs x

numbers_count : (w : Place → ℕ) (r n : ℕ) → length (numbers_of w r n) ≡ n
numbers_count w r zero = refl
numbers_count w r (suc n) = let a = numbers_count w r n in let b = length_push (numbers_of w r n) (w (RowWord r (suc (suc n)))) in omega arith

number_at : (w : Place → ℕ) (r n j : ℕ) → j < n → get_or (numbers_of w r n) j 0 ≡ w (RowWord r (suc (suc j)))
number_at w r zero j l = absurd (omega arith)
number_at w r (suc n) j l = ⊎_elim
    (λ less. get_more (numbers_of w r n) (w (RowWord r (suc (suc n)))) j (let a = numbers_count w r n in omega arith) ∙ number_at w r n j less)
    (λ past. let e : n ≡ j = omega arith in subst (λ (q : ℕ). get_or (numbers_of w r n ++ w (RowWord r (suc (suc n))) ∷ []) q 0 ≡ w (RowWord r (suc (suc q)))) e
    (subst (λ (q : ℕ). get_or (numbers_of w r n ++ w (RowWord r (suc (suc n))) ∷ []) q 0 ≡ w (RowWord r (suc (suc n)))) (numbers_count w r n) (get_end (numbers_of w r n) (w (RowWord r (suc (suc n)))))))
    (cases_lt j n)

same_list : (xs ys : List ℕ) → length xs ≡ length ys → ((j : ℕ) → j < length xs → get_or xs j 0 ≡ get_or ys j 0) → xs ≡ ys
same_list [] [] e h = refl
same_list [] (y ∷ ys) e h = absurd (omega arith)
same_list (x ∷ xs) [] e h = absurd (omega arith)
same_list (x ∷ xs) (y ∷ ys) e h =
    let rest : xs ≡ ys = same_list xs ys (omega arith) (λ j l. h (suc j) (omega arith)) in
    ap (λ (a : ℕ). a ∷ xs) (h 0 (omega arith)) ∙ ap (λ (zs : List ℕ). y ∷ zs) rest

module _ (w : Place → ℕ) (r : ℕ) where
  -- the arguments of a content, by the words that it has
  arguments_are : (rs : List ℕ) → w (RowWord r 1) ≡ length rs → ((j : ℕ) → j < length rs → w (RowWord r (suc (suc j))) ≡ get_or rs j 0) → numbers_of w r (w (RowWord r 1)) ≡ rs
  arguments_are rs n h = same_list (numbers_of w r (w (RowWord r 1))) rs (numbers_count w r (w (RowWord r 1)) ∙ n)
      (λ j l. let k = numbers_count w r (w (RowWord r 1)) in number_at w r (w (RowWord r 1)) j (omega arith) ∙ h j (omega arith))

  hashed_int : (f : Head) (rs : List ℕ) → w (RowWord r 0) ≡ 4294967296 → IsOver f rs → ((m : ℕ) → m < length (spelled f rs) → w (RowWord r m) ≡ get_or (spelled f rs) m 0) → mixed (mixed 14695981039346656037 (w (RowWord r 0))) (w (RowWord r 2)) ≡ hash_of f rs
  unfolding hash_of
  hashed_int (App f) rs e o h = absurd (let a = h 0 (omega arith) in omega arith)
  hashed_int (Int v) rs e o h = ap (λ (n : ℕ). mixed (mixed 14695981039346656037 n) (w (RowWord r 2))) e ∙ ap (λ (n : ℕ). mixed (mixed 14695981039346656037 4294967296) n) (h 2 (omega arith))
  hashed_int Nil rs e o h = absurd (let a = h 0 (omega arith) in omega arith)
  hashed_int Cons rs e o h = absurd (let a = h 0 (omega arith) in omega arith)

  hashed_rows : (f : Head) (rs : List ℕ) → w (RowWord r 0) ≢ 4294967296 → IsOver f rs → ((m : ℕ) → m < length (spelled f rs) → w (RowWord r m) ≡ get_or (spelled f rs) m 0) → mixed_all (mixed 14695981039346656037 (w (RowWord r 0))) (numbers_of w r (w (RowWord r 1))) ≡ hash_of f rs
  unfolding hash_of
  hashed_rows (App f) rs ne o h =
      ap (λ (n : ℕ). mixed_all (mixed 14695981039346656037 n) (numbers_of w r (w (RowWord r 1)))) (h 0 (omega arith))
      ∙ ap (λ (xs : List ℕ). mixed_all (mixed 14695981039346656037 f.0) xs) (arguments_are rs (h 1 (omega arith)) (λ j l. h (suc (suc j)) (omega arith)))
  hashed_rows (Int v) rs ne o h = absurd (ne (h 0 (omega arith)))
  hashed_rows Nil rs ne o h =
      let none : length rs ≡ 0 = ap length o in
      ap (λ (n : ℕ). mixed_all (mixed 14695981039346656037 n) (numbers_of w r (w (RowWord r 1)))) (h 0 (omega arith))
      ∙ ap (λ (xs : List ℕ). mixed_all (mixed 14695981039346656037 4294967297) xs) (arguments_are rs (h 1 (omega arith) ∙ sym none) (λ j l. absurd (omega arith)))
  hashed_rows Cons rs ne o h =
      let two : length rs ≡ 2 = o in
      ap (λ (n : ℕ). mixed_all (mixed 14695981039346656037 n) (numbers_of w r (w (RowWord r 1)))) (h 0 (omega arith))
      ∙ ap (λ (xs : List ℕ). mixed_all (mixed 14695981039346656037 4294967298) xs) (arguments_are rs (h 1 (omega arith) ∙ sym two) (λ j l. h (suc (suc j)) (omega arith)))

  pub hashes_int : (c : Content) → HasContent w r c → w (RowWord r 0) ≡ 4294967296 → IsHashed w r (mixed (mixed 14695981039346656037 (w (RowWord r 0))) (w (RowWord r 2)))
  hashes_int c h e = record { content = c; has = h; hashed = hashed_int c.head c.arguments e h.over h.words }

  pub hashes_rows : (c : Content) → HasContent w r c → w (RowWord r 0) ≢ 4294967296 → IsHashed w r (mixed_all (mixed 14695981039346656037 (w (RowWord r 0))) (numbers_of w r (w (RowWord r 1))))
  hashes_rows c h ne = record { content = c; has = h; hashed = hashed_rows c.head c.arguments ne h.over h.words }

  -- and the bucket of it
  pub stands_by : (h u b : ℕ) → IsHashed w r h → b ≡ h % u → StandsIn w u b r
  unfolding bucket_of
  stands_by h u b k e = record { content = k.content; has = k.has; bucket = ap (λ (n : ℕ). n % u) (sym k.hashed) ∙ sym e }
