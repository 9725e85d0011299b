-- The proxies that an answer copies from its request (RFC 6733, section 6.2).
use Rattle.std.specs.Prelude.{◌≡◌, ℕ, true, List, filter}
use Rattle.std.specs.List.{flat_map, AllByRecursion}
use Rattle.dcc_avp.specs.Spelling.{AvpView, padded, has_code, HasSpelling}
use Rattle.dcc_avp.specs.declared.codes.TheConstants.{PROXY_INFO}

-- each Proxy-Info in order, with zero padding
unfoldable pub proxies_of : List AvpView → List ℕ
proxies_of avps = flat_map padded (filter (has_code PROXY_INFO) avps)

-- a Proxy-Info that can be spelled
pub record IsProxy (avp : AvpView) : Type 0 where
  pub spelled : HasSpelling avp
  pub is_proxy : has_code PROXY_INFO avp ≡ true

abbrev pub AreProxies : List AvpView → Type 0
AreProxies avps = AllByRecursion IsProxy avps

-- the octets are those of Proxy-Info, one after another
abbrev pub SpellProxies : List ℕ → Type 0
SpellProxies octets = (avps : List AvpView) × AreProxies avps × (octets ≡ flat_map padded avps)
