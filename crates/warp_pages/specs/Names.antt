-- By which names a host may be reached over HTTP, and which pages may reach it.
use Rattle.std.specs.Prelude.{◌==◌, ◌++◌, ◌||◌, ℕ, Bool, List, [], ◌∷◌, codes, decimal, if◌then◌else◌}
use Rattle.std.specs.List.{list_any}
use Rattle.std.specs.Str.{bytes_eq}

-- what stands behind a name in an address: `:PORT`, and nothing for the port of HTTP
abbrev pub port_text : ℕ → List ℕ
port_text port = if port == 80 then [] else codes ":" ++ decimal port

-- the names of a host that listens on this address: those of its own machine, and the address
abbrev pub own_names : List ℕ → List (List ℕ)
own_names address = codes "127.0.0.1" ∷ codes "localhost" ∷ codes "[::1]" ∷ address ∷ []

-- the text is one of the host's own names, with its port
abbrev pub is_own : List ℕ → ℕ → List ℕ → Bool
is_own address port text = list_any (λ name. bytes_eq text (name ++ port_text port)) (own_names address)

-- the text is the origin of a page of the host's own
abbrev pub is_own_origin : List ℕ → ℕ → List ℕ → Bool
is_own_origin address port text = list_any (λ name. bytes_eq text (codes "http://" ++ (name ++ port_text port))) (own_names address)

-- the text is one of these origins, as a whole
abbrev pub is_allowed : List (List ℕ) → List ℕ → Bool
is_allowed allowed text = list_any (λ origin. bytes_eq origin text) allowed

-- the text is what stands behind `http://` or `https://` in one of these origins
abbrev pub names_allowed : List (List ℕ) → List ℕ → Bool
names_allowed allowed text =
    list_any (λ origin. bytes_eq origin (codes "http://" ++ text) || bytes_eq origin (codes "https://" ++ text)) allowed
