-- Rows one after another: a step over the first, and where there is none.
use Rattle.std.proofs.Common.{◌≡◌, ℕ, suc, ◌+◌, ◌-◌, ◌<◌, false, List, [], ◌∷◌, ◌++◌, length, Decides, sym, refl, ap, ◌∙◌, arith}
use Rattle.std.specs.List.{flat_map}
use Rattle.std.proofs.lemmas.Bool.{false≢true}
use Rattle.std.proofs.lemmas.List.{nil_from_length}
use Rattle.sheets.specs.Standing.{Begins, Holds, Filled}
use Rattle.sheets.specs.Sheets.{SheetRow, row_bytes}
use Rattle.sheets.proofs.Fronts.{placed}

pub record Stepped (rows : List SheetRow) (row : SheetRow) (rest : List ℕ) : Type 0 where
  pub later : List SheetRow
  pub is : rows ≡ row ∷ later
  pub holds : Holds rest later

pub holds_step : (bs : List ℕ) (rows : List SheetRow) (row : SheetRow) (rest : List ℕ) → Holds bs rows → Begins bs row rest → Stepped rows row rest
holds_step bs [] row rest h b = let p = placed bs row rest b in absurd (omega (arith, p.long, ap length h.is))
holds_step bs (r ∷ rs) row rest h b =
    let p = placed bs row rest b in
    let q = placed bs r (flat_map row_bytes rs) (record { is = h.is; fits = h.each.0 }) in
    record {
      later = rs;
      is = ap (λ x. x ∷ rs) (sym q.is_row ∙ p.is_row);
      holds = record { is = sym p.is_rest ∙ q.is_rest; each = h.each.1 };
    }

pub holds_none : (bs : List ℕ) (rows : List SheetRow) → Holds bs rows → ((row : SheetRow) (rest : List ℕ) → Begins bs row rest → ⊥) → rows ≡ []
holds_none bs [] h n = refl
holds_none bs (r ∷ rs) h n = absurd (n r (flat_map row_bytes rs) (record { is = h.is; fits = h.each.0 }))

pub filled_more : (bs : List ℕ) (row : SheetRow) (rest : List ℕ) (k n : ℕ) → n ≡ k + 1 → Begins bs row rest → Filled rest k → Filled bs n
filled_more bs row rest k n e b f =
    let many : suc (length f.rows) ≡ n = omega (arith, f.many) in
    record { rows = row ∷ f.rows; many = many; holds = record { is = b.is ∙ ap (λ l. row_bytes row ++ l) f.holds.is; each = (b.fits, f.holds.each) } }

pub filled_less : (bs : List ℕ) (row : SheetRow) (rest : List ℕ) (k n : ℕ) → n ≡ k + 1 → Begins bs row rest → Filled bs n → Filled rest k
filled_less bs row rest k n e b f =
    let s = holds_step bs f.rows row rest f.holds b in
    let many : length s.later ≡ k = omega (arith, f.many, ap length s.is) in
    record { rows = s.later; many = many; holds = s.holds }

pub filled_no : (bs : List ℕ) (n : ℕ) → 0 < n → ((row : SheetRow) (rest : List ℕ) → Begins bs row rest → ⊥) → Filled bs n → ⊥
filled_no bs n h none f = omega (arith, f.many, ap length (holds_none bs f.rows f.holds none))

pub filled_all : (bs : List ℕ) → bs ≡ [] → Filled bs 0
filled_all bs e = record { rows = []; many = refl; holds = record { is = e; each = tt } }

pub filled_end : (bs : List ℕ) → Filled bs 0 → bs ≡ []
filled_end bs f = f.holds.is ∙ ap (flat_map row_bytes) (nil_from_length f.rows f.many)

-- the one has its rows exactly when the other has
abbrev pub Alike : List ℕ → ℕ → List ℕ → ℕ → Type 0
Alike rest m bytes n = (Filled rest m → Filled bytes n) × (Filled bytes n → Filled rest m)

-- a loop over i of the rows, where what is left is alike to all
module _ (bytes rest : List ℕ) (count i : ℕ) (alike : Alike rest (count - i) bytes count) where
  pub alike_more : (row : SheetRow) (after : List ℕ) → i < count → Begins rest row after → Alike after (count - (i + 1)) bytes count
  alike_more row after lt b =
      let one : count - i ≡ count - (i + 1) + 1 = omega arith in
      (λ f. alike.0 (filled_more rest row after _ _ one b f), λ f. filled_less rest row after _ _ one b (alike.1 f))

  pub alike_none : i < count → ((row : SheetRow) (after : List ℕ) → Begins rest row after → ⊥) → Decides false (Filled bytes count)
  alike_none lt none = (λ e. absurd (false≢true e), λ f. absurd (filled_no rest (count - i) (omega arith) none (alike.1 f)))
