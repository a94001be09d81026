-- Ways of a graph with helpers, and ways over the relation that it tells.
use Rattle.std.proofs.Common.{◌≡◌, ℕ, ◌+◌, ◌<◌, ◌≤◌, ◌⊎◌, inl, inr, ⊎_elim, List, [], ◌∷◌, sym, refl, ap, ◌∙◌, subst, arith}
use Rattle.std.proofs.lemmas.Bool.{cases_lt}
use Rattle.digraph.specs.Way.{Leads, by_step, by_more, Way, way_ends, way_goes, total, IsGreatest, Recurs}
use Rattle.digraph.specs.Graph.{Edge}
use Rattle.digraph.specs.Helpers.{Via, via_edge, via_helper, Tells, MeasureNothing}
use Rattle.digraph.proofs.Leading.{leads-join}

module _ (g : List (List ℕ)) (count : ℕ) (rank : ℕ → ℕ) (R : ℕ → ℕ → Type 0) (tells : Tells g count rank R) where
  via-inside : {v n : ℕ} → Via g count v n → n < count
  via-inside (via_edge e l) = l
  via-inside (via_helper e h more) = via-inside more

  -- ---- ways and their sums

  module _ (measure : ℕ → ℕ) (nothing : MeasureNothing measure count) where
    record Filled (v : ℕ) (vs : List ℕ) : Type 0 where
      rest : List ℕ
      is_way : Way (Edge g) v (v ∷ rest)
      measures : total measure rest ≡ total measure vs

    filled : (v n : ℕ) (vs : List ℕ) → Via g count v n → Way (Edge g) n vs → Filled v vs
    filled v n vs (via_edge e l) way = record { rest = vs; is_way = way_goes e way; measures = refl }
    filled v n vs (via_helper {h = h} e l more) way =
        let later = filled h n vs more way in
        let none = nothing h l in
        let sums = later.measures in
        record { rest = h ∷ later.rest; is_way = way_goes e later.is_way; measures = omega arith }

    record Told (m : ℕ) (ns : List ℕ) : Type 0 where
      way : List ℕ
      is_way : Way (Edge g) m way
      measures : total measure way ≡ total measure ns

    told-way : (m : ℕ) (ns : List ℕ) → m < count → Way R m ns → Told m ns
    told-way m ns l way_ends = record { way = m ∷ []; is_way = way_ends; measures = refl }
    told-way m whole l (way_goes {w = n} {vs = ns} r more) =
        let via = tells.told m n l r in
        let later = told-way n ns (via-inside via) more in
        let all = filled m n later.way via later.is_way in
        record { way = m ∷ all.rest; is_way = all.is_way; measures = ap (λ x. measure m + x) (all.measures ∙ later.measures) }

    -- what comes behind the first vertex: helpers alone, or helpers and then a way over the relation
    record Behind (v sum : ℕ) : Type 0 where
      method : ℕ
      via : Via g count v method
      rest : List ℕ
      is_way : Way R method rest
      measures : total measure rest ≡ sum

    behind : (v : ℕ) (vs : List ℕ) → Way (Edge g) v vs → (sum : ℕ) × ((measure v + sum ≡ total measure vs) × ((sum ≡ 0) ⊎ Behind v sum))
    behind v whole way_ends = (0, (omega arith, inl refl))
    behind v whole (way_goes {w = w} {vs = vs} e more) =
        let later = behind w vs more in (
          total measure vs,
          (
            refl,
            elim (cases_lt w count) [
              | inl inside ↦ inr (elim later.1.1 [
                | inl none ↦ record { method = w; via = via_edge e inside; rest = w ∷ []; is_way = way_ends; measures = (let s = later.1.0 in omega arith) }
                | inr b ↦ record {
                  method = w;
                  via = via_edge e inside;
                  rest = w ∷ b.rest;
                  is_way = way_goes (tells.only w b.method inside b.via) b.is_way;
                  measures = ap (λ x. measure w + x) b.measures ∙ later.1.0;
                }
              ])
              | inr helper ↦
                  let none = nothing w helper in
                  let s = later.1.0 in
                  elim later.1.1 [
                    | inl zero ↦ inl (omega arith)
                    | inr b ↦ inr (record {
                      method = b.method;
                      via = via_helper e helper b.via;
                      rest = b.rest;
                      is_way = b.is_way;
                      measures = (let m = b.measures in omega arith);
                    })
                  ]
            ],
          ),
        )

    record Read (m : ℕ) (vs : List ℕ) : Type 0 where
      way : List ℕ
      is_way : Way R m way
      measures : total measure way ≡ total measure vs

    read-way : (m : ℕ) (vs : List ℕ) → m < count → Way (Edge g) m vs → Read m vs
    read-way m vs l way =
        let b = behind m vs way in
        elim b.1.1 [
          | inl none ↦ record { way = m ∷ []; is_way = way_ends; measures = (let s = b.1.0 in omega arith) }
          | inr more ↦ record {
            way = m ∷ more.rest;
            is_way = way_goes (tells.only m more.method l more.via) more.is_way;
            measures = ap (λ x. measure m + x) more.measures ∙ b.1.0;
          }
        ]

    -- the greatest sums are the same
    pub greatest-told : (from most : ℕ) → from < count → IsGreatest (Edge g) measure from most → IsGreatest R measure from most
    greatest-told from most l great =
        let read = read-way from great.way l great.is_way in
        record {
          way = read.way;
          is_way = read.is_way;
          measures = read.measures ∙ great.measures;
          none_more = λ ns way. let told = told-way from ns l way in subst (λ n. n ≤ most) told.measures (great.none_more told.way told.is_way);
        }

  -- ---- what comes again

  via-leads : {v n : ℕ} → Via g count v n → Leads (Edge g) v n
  via-leads (via_edge e l) = by_step e
  via-leads (via_helper e h more) = by_more e (via-leads more)

  told-leads : {m n : ℕ} → m < count → Leads R m n → Leads (Edge g) m n
  told-leads l (by_step r) = via-leads (tells.told _ _ l r)
  told-leads l (by_more r more) =
      let via = tells.told _ _ l r in leads-join (via-leads via) (told-leads (via-inside via) more)

  record First (v n : ℕ) : Type 0 where
    method : ℕ
    via : Via g count v method
    leads : (method ≡ n) ⊎ Leads R method n

  first : (v n : ℕ) → n < count → Leads (Edge g) v n → First v n
  first v n l (by_step e) = record { method = n; via = via_edge e l; leads = inl refl }
  first v n l (by_more {b = w} e more) =
      let later = first w n l more in
      elim (cases_lt w count) [
        | inl inside ↦
            let r = tells.only w later.method inside later.via in
            record { method = w; via = via_edge e inside; leads = inr (⊎_elim (λ is. by_step (subst (R w) is r)) (λ m. by_more r m) later.leads) }
        | inr helper ↦ record { method = later.method; via = via_helper e helper later.via; leads = later.leads }
      ]

  read-leads : {m n : ℕ} → m < count → n < count → Leads (Edge g) m n → Leads R m n
  read-leads {m} {n} l k e =
      let f = first m n k e in
      let r = tells.only m f.method l f.via in
      ⊎_elim (λ is. by_step (subst (R m) is r)) (λ more. by_more r more) f.leads

  pub recurs-read : (from v : ℕ) → from < count → v < count → Recurs (Edge g) from v → Recurs R from v
  recurs-read from v l k r = record { there = ⊎_elim (λ is. inl is) (λ e. inr (read-leads l k e)) r.there; again = read-leads k k r.again }

  pub recurs-told : (from v : ℕ) → from < count → v < count → Recurs R from v → Recurs (Edge g) from v
  recurs-told from v l k r = record { there = ⊎_elim (λ is. inl is) (λ e. inr (told-leads l e)) r.there; again = told-leads k r.again }

  -- between helpers over helpers the rank rises, so there is another on each cycle
  record Between (h k : ℕ) : Type 0 where
    method : ℕ
    inside : method < count
    before : Leads (Edge g) h method
    after : Leads (Edge g) method k

  between : (h k : ℕ) → count ≤ h → count ≤ k → Leads (Edge g) h k → (rank h < rank k) ⊎ Between h k
  between h k l m (by_step e) = inl (tells.up h k l m e)
  between h k l m (by_more {b = w} e more) = elim (cases_lt w count) [
    | inl inside ↦ inr (record { method = w; inside = inside; before = by_step e; after = more })
    | inr helper ↦
        let up = tells.up h w l helper e in
        elim (between w k helper m more) [
          | inl rises ↦ inl (omega arith)
          | inr b ↦ inr (record { method = b.method; inside = b.inside; before = by_more e b.before; after = b.after })
        ]
  ]

  -- where a vertex comes again, one that is no helper does
  pub recurs-below : (from v : ℕ) → Recurs (Edge g) from v → (m : ℕ) × ((m < count) × Recurs (Edge g) from m)
  recurs-below from v r = elim (cases_lt v count) [
    | inl inside ↦ (v, (inside, r))
    | inr helper ↦ elim (between v v helper helper r.again) [
      | inl rises ↦ absurd (omega arith)
      | inr b ↦ (
        b.method,
        (
          b.inside,
          record {
            there = inr (⊎_elim (λ is. subst (λ x. Leads (Edge g) x b.method) (sym is) b.before) (λ l. leads-join l b.before) r.there);
            again = leads-join b.after b.before;
          },
        ),
      )
    ]
  ]
