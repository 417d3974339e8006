-- Numbers and their bytes, at any width, both ways.
use Rattle.std.proofs.Common.{◌≡◌, ℕ, zero, suc, ◌+◌, ◌*◌, ◌/◌, ◌%◌, ◌^◌, ◌<◌, ◌≤◌, List, [], ◌∷◌, ◌++◌, length, get_or, take, ℤ, pos, negsuc, sym, refl, ap, ◌∙◌, subst, lt_of_lt_of_le, mod-eq_of_lt, mul_assoc, add-mul, pow-suc, div-one, arith, lit<, length-append, pow-add, w8, w32, Fits, SFits, to_z, of_z}
use native.Mathlib.Nat.{pow-succ', mod-one, pow-le-pow_right}
use lib.Arith.{mod-mul, digits_div, digits_mod, digits_lt}
use Rattle.std.proofs.ByRecursion.{All-append, All-from_get_or, All-take}
use Rattle.std.proofs.lemmas.List.{length-take}
use Rattle.std.proofs.lemmas.Int.{to_z-of_z, of_z-to_z, ints}
use Rattle.octets.specs.BigEndian.{big_endian, number, be4, be_id, id_number}
use Rattle.octets.specs.Octets.{Bytes}

pub length_be : (k n : ℕ) → length (big_endian k n) ≡ k
length_be zero n = refl
length_be (suc zero) n = refl
length_be (suc (suc k)) n = ap suc (length_be (suc k) n)

-- one byte more, at the front
be_more : (k n : ℕ) → big_endian (suc k) n ≡ (n / 256 ^ k % 256) ∷ big_endian k n
be_more zero n = ap (λ m. m % 256 ∷ []) (sym (div-one n))
be_more (suc k) n = refl

pow_above : (k : ℕ) → 0 < 256 ^ k
pow_above zero = omega arith
pow_above (suc k) = let h = pow_above k in omega (arith, pow-suc 256 k)

-- the number of the bytes, whether or not it fits them
number_of_be : (k n : ℕ) → number (big_endian k n) ≡ n % 256 ^ k
number_of_be zero n = sym (mod-one n)
number_of_be (suc k) n =
    ap number (be_more k n)
    ∙ (λ i. (n / 256 ^ k % 256) * 256 ^ length_be k n i + number_of_be k n i)
    ∙ sym (mod-mul n {m = 256} {c = 256 ^ k} (omega arith) (pow_above k))
    ∙ ap (λ m. n % m) (sym (pow-succ' 256 k))

pub number_be : (k n : ℕ) → n < 256 ^ k → number (big_endian k n) ≡ n
number_be k n h = number_of_be k n ∙ mod-eq_of_lt h

pub same_from_be : (k m n : ℕ) → m < 256 ^ k → n < 256 ^ k → big_endian k m ≡ big_endian k n → m ≡ n
same_from_be k m n p q e = sym (number_be k m p) ∙ ap number e ∙ number_be k n q

pub number_below : (bs : List ℕ) → Bytes bs → number bs < 256 ^ length bs
number_below [] h = omega arith
number_below (b ∷ bs) h = subst (λ m. b * 256 ^ length bs + number bs < m) (sym (pow-succ' 256 (length bs))) (digits_lt h.0 (number_below bs h.1))

spread : (x p q r s : ℕ) → x * (p * q) + (r * q + s) ≡ (x * p + r) * q + s
spread x p q r s = let e : x * (p * q) ≡ x * p * q = sym (mul_assoc x p q) in let f = add-mul (x * p) r q in omega arith

pub number_take_below : (k : ℕ) (bs : List ℕ) → Bytes bs → number (take k bs) < 256 ^ k
number_take_below k bs h =
    let below = number_below (take k bs) (All-take _ k bs h) in
    let shorter : length (take k bs) ≤ k = omega (arith, length-take k bs) in
    lt_of_lt_of_le below (pow-le-pow_right (lit< tt) shorter)

-- bytes above the width change nothing
be_above : (bs : List ℕ) (m : ℕ) → Bytes bs → big_endian (length bs) (m * 256 ^ length bs + number bs) ≡ bs
be_above [] m h = refl
be_above (b ∷ bs) m h =
    let k = length bs in
    let join : m * 256 ^ suc k + (b * 256 ^ k + number bs) ≡ (m * 256 + b) * 256 ^ k + number bs =
    ap (λ x. m * x + (b * 256 ^ k + number bs)) (pow-succ' 256 k) ∙ spread m 256 (256 ^ k) b (number bs) in
    let top : ((m * 256 + b) * 256 ^ k + number bs) / 256 ^ k % 256 ≡ b = ap (λ x. x % 256) (digits_div (m * 256 + b) (number_below bs h.1)) ∙ digits_mod m h.0 in
    ap (big_endian (suc k)) join ∙ be_more k _ ∙ (λ i. top i ∷ be_above bs (m * 256 + b) h.1 i)

pub be_number : (bs : List ℕ) → Bytes bs → big_endian (length bs) (number bs) ≡ bs
be_number bs h = ap (big_endian (length bs)) (omega (arith)) ∙ be_above bs 0 h

pub bytes_be : (k n : ℕ) → Bytes (big_endian k n)
bytes_be zero n = tt
bytes_be (suc zero) n = (omega arith, tt)
bytes_be (suc (suc k)) n = (omega arith, bytes_be (suc k) n)

pub number_append : (xs ys : List ℕ) → number (xs ++ ys) ≡ number xs * 256 ^ length ys + number ys
number_append [] ys = omega arith
number_append (x ∷ xs) ys =
    (λ i. x * 256 ^ length-append xs ys i + number_append xs ys i)
    ∙ ap (λ p. x * p + (number xs * 256 ^ length ys + number ys)) (pow-add 256 (length xs) (length ys))
    ∙ spread x (256 ^ length xs) (256 ^ length ys) (number xs) (number ys)

-- the bytes of two numbers are those of one
pub be_append : (j k m n : ℕ) → m < 256 ^ j → n < 256 ^ k → big_endian j m ++ big_endian k n ≡ big_endian (j + k) (m * 256 ^ k + n)
be_append j k m n p q =
    let both = big_endian j m ++ big_endian k n in
    let len : length both ≡ j + k = length-append (big_endian j m) (big_endian k n) ∙ (λ i. length_be j m i + length_be k n i) in
    let num : number both ≡ m * 256 ^ k + n = number_append (big_endian j m) (big_endian k n) ∙ (λ i. number_be j m p i * 256 ^ length_be k n i + number_be k n q i) in
    sym (be_number both (All-append _ _ _ (bytes_be j m) (bytes_be k n))) ∙ (λ i. big_endian (len i) (num i))

-- the bytes of a slice, as a proof about code knows them
pub bytes_from_fits : (bs : List ℕ) → ((i : ℕ) → Fits w8 (get_or bs i 0)) → Bytes bs
bytes_from_fits bs h = All-from_get_or (λ b. b < 256) bs 0 (λ i _. (h i).fits)

of_z_below : (z : ℤ) → SFits w32 z → of_z w32 z < 256 ^ 4
of_z_below (pos n) f = omega (arith, ints)
of_z_below (negsuc n) f = omega (arith, ints)

pub id_number_be_id : (z : ℤ) → SFits w32 z → id_number (be_id z) ≡ z
id_number_be_id z f = ap (to_z w32) (number_be 4 (of_z w32 z) (of_z_below z f)) ∙ to_z-of_z w32 z f

pub same_from_be_id : (y z : ℤ) → SFits w32 y → SFits w32 z → be_id y ≡ be_id z → y ≡ z
same_from_be_id y z f g e = sym (id_number_be_id y f) ∙ ap id_number e ∙ id_number_be_id z g

pub be_id_id_number : (bs : List ℕ) → Bytes bs → length bs ≡ 4 → be_id (id_number bs) ≡ bs
be_id_id_number bs h n =
    let small : number bs < 256 ^ 4 = subst (λ k. number bs < 256 ^ k) n (number_below bs h) in
    ap be4 (of_z-to_z w32 (number bs) small) ∙ ap (λ k. big_endian k (number bs)) (sym n) ∙ be_number bs h
