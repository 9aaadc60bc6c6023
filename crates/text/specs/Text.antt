-- Text in a buffer of bytes, in ASCII.
--
--   space, newline      the two bytes between and after the fields
--   digit_of d          the digit d, below 16: 0 to 9, then a to f
--   decimal_bytes n     n in decimal, with no zero in front; 0 is one digit
--   field x             a space and a number
--   hex_bytes b         a byte as two hexadecimal digits
--   each f s            the texts that f has for the numbers of s, one after another
--   hex_text s          every byte of s as two hexadecimal digits, with nothing between
--   line_bytes x        a number and a newline
--   lines_text s        every number of s on a line of its own
--   Put                 what a function that writes text promises: every byte of the buffer, and the end of the text
--   Printed text out r  the first r bytes of the buffer out are the text
use Rattle.std.specs.Prelude.{ℕ, zero, suc, ◌+◌, ◌/◌, ◌%◌, ◌≤◌, ◌≡◌, cond, List, [], ◌∷◌, ◌++◌, ltb, length, take}
use Rattle.std.proofs.lemmas.List.Edits.{sets}

abbrev pub space : ℕ
space = 32

abbrev pub newline : ℕ
newline = 10

unfoldable pub digit_of : ℕ → ℕ
digit_of d = cond (ltb d 10) (48 + d) (87 + d)

-- n in decimal, in at most one digit more than the first number says
unfoldable pub decimal_within : ℕ → ℕ → List ℕ
decimal_within zero n = digit_of n ∷ []
decimal_within (suc most) n = cond (ltb n 10) (digit_of n ∷ []) (decimal_within most (n / 10) ++ (digit_of (n % 10) ∷ []))

-- n has at most n + 1 digits
unfoldable pub decimal_bytes : ℕ → List ℕ
decimal_bytes n = decimal_within n n

unfoldable pub field : ℕ → List ℕ
field x = space ∷ decimal_bytes x

unfoldable pub hex_bytes : ℕ → List ℕ
hex_bytes b = digit_of (b / 16) ∷ digit_of (b % 16) ∷ []

unfoldable pub each : (ℕ → List ℕ) → List ℕ → List ℕ
each f [] = []
each f (x ∷ s) = f x ++ each f s

unfoldable pub hex_text : List ℕ → List ℕ
hex_text s = each hex_bytes s

unfoldable pub line_bytes : ℕ → List ℕ
line_bytes x = decimal_bytes x ++ (newline ∷ [])

unfoldable pub lines_text : List ℕ → List ℕ
lines_text s = each line_bytes s

-- the buffer old with text from place n on is new, and the text ends at place r
pub record Put (old : List ℕ) (n : ℕ) (text new : List ℕ) (r : ℕ) : Type 0 where
  pub bytes : new ≡ sets old n text
  pub past : r ≡ n + length text

-- the last two are said so that whoever prints `&out[..r]` needs no proof
pub record Printed (text out : List ℕ) (r : ℕ) : Type 0 where
  pub bytes : take r out ≡ text
  pub within : r ≤ length out
  pub counted : r ≡ length (take r out)
